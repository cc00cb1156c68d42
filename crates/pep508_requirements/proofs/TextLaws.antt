-- The text of a requirement parses back.
use Rattle.std.proofs.Common.{true≢false, ◌≡◌, ℕ, Bool, true, List, [], ◌∷◌, ◌++◌, Option, Some, None, inl, inr, refl, sym, ap, ◌∙◌, subst, append_assoc, IsUtf8, arith}
use Rattle.std.specs.Prelude.{option_map, IfOk, IfSome, Result, Ok, Err}
use Rattle.std.specs.List.{AllByRecursion}
use Rattle.std.specs.Str.{chars, IsAscii}
use Rattle.std.proofs.lemmas.Str.{chars-append, chars-IsAscii, encodes-chars, chars-nil, IsUtf8-from_ascii}
use Rattle.std.proofs.lemmas.Str.Ascii.{IsAscii-nil}
use Rattle.pep508_errors.specs.declared.surroundings.Surroundings.{Surroundings}
use Rattle.pep508_text.specs.Run.{Spaces, more}
use Rattle.pep508_errors.specs.declared.warning.MarkerWarningKind.{MarkerWarningKind}
use Rattle.marker_environment.specs.Valuation.{Valuation}
use Rattle.marker_graph.specs.declared.tree.MarkerTree.{MarkerTree}
use Rattle.marker_graph.specs.Contents.{Contents, truth}
use Rattle.marker_grammar.specs.Formula.{Formula}
use Rattle.marker_grammar.specs.Grammar.{Reads}
use Rattle.marker_view.specs.Text.{TellsText}
use Rattle.marker_view.specs.Text.{ReadsBack as MarkerReadsBack}
use Rattle.requirement_words.specs.Head.{Asked, nothing, specifiers, IsHead}
use Rattle.requirement_words.specs.Tail.{unmarked, marked}
use Rattle.requirement_words.proofs.PlainText.{ascii-cons}
use Rattle.requirement_words.specs.Text.{extras_text, asked_text, head_text, IsTailText, no_marker, marker, IsNormal, IsPrintedAs, IsPrintable}
use Rattle.pep508_requirements.specs.declared.version_or_url.VersionOrUrl.{VersionOrUrl}
use Rattle.pep508_requirements.specs.declared.version_or_url.VersionOrUrl.TheVariants as wants
use Rattle.pep508_requirements.specs.Requirement.{IsWanted}
use Rattle.pep508_requirements.specs.Text.{marker_part, asked_part, requirement_text, AreSets, IsPlainlyAsked, IsPrintedTruth, IsTextOf, ReadsBack}

abbrev Kinds : Type 0
Kinds = List MarkerWarningKind

-- a space is ASCII, and so is the text before a marker
space_ascii : IsAscii (32 ∷ [])
space_ascii = ascii-cons 32 [] (omega arith) IsAscii-nil

mark_ascii : IsAscii (32 ∷ (59 ∷ (32 ∷ [])))
mark_ascii = ascii-cons 32 (59 ∷ (32 ∷ [])) (omega arith) (ascii-cons 59 (32 ∷ []) (omega arith) space_ascii)

-- a space before a marker does not belong to it
reads_spaced : (m : List ℕ) (f : Option Formula) (kinds : Kinds) → Reads m f kinds → Reads (32 ∷ m) f kinds
reads_spaced m f kinds r = record {
  start = r.start;
  end = r.end;
  before = subst (λ (cs : List ℕ). Spaces cs r.start) (sym (spaced m)) (more refl r.before);
  body = r.body;
  after = r.after;
}
  where
    spaced : (m : List ℕ) → chars (32 ∷ m) ≡ 32 ∷ chars m
    spaced m = chars-append (32 ∷ []) m (IsUtf8-from_ascii (32 ∷ []) space_ascii) ∙ ap (λ (x : List ℕ). x ++ chars m) (chars-IsAscii (32 ∷ []) space_ascii)

-- the characters of the text after the head
part_chars : (m : List ℕ) → chars (marker_part (Some m)) ≡ 32 ∷ (59 ∷ (32 ∷ chars m))
part_chars m = chars-append (32 ∷ (59 ∷ (32 ∷ []))) m (IsUtf8-from_ascii (32 ∷ (59 ∷ (32 ∷ []))) mark_ascii) ∙ ap (λ (x : List ℕ). x ++ chars m) (chars-IsAscii (32 ∷ (59 ∷ (32 ∷ []))) mark_ascii)

module _ {T E : Type 0} where
  -- the versions, if there is no URL
  abbrev pub asked_of : Option (VersionOrUrl T E) → Asked
  asked_of None = nothing
  asked_of (Some (wants.VersionSpecifier set)) = specifiers set
  asked_of (Some (wants.Url u)) = nothing

  printed_as : (wanted : Option (VersionOrUrl T E)) → IsPlainlyAsked wanted → AreSets wanted → IsPrintedAs (asked_of wanted)
  printed_as None p s = tt
  printed_as (Some (wants.VersionSpecifier [])) p s = absurd (p refl)
  printed_as (Some (wants.VersionSpecifier (x ∷ xs))) p s = s
  printed_as (Some (wants.Url u)) p s = absurd p

  part_is : (url_text : T → Option (List ℕ)) (wanted : Option (VersionOrUrl T E)) → IsPlainlyAsked wanted → asked_part url_text wanted ≡ Some (asked_text (asked_of wanted))
  part_is url_text None p = refl
  part_is url_text (Some (wants.VersionSpecifier set)) p = refl
  part_is url_text (Some (wants.Url u)) p = absurd p

  wanted_is : (names : List ℕ → T → Type 0) (wanted : Option (VersionOrUrl T E)) → IsPlainlyAsked wanted → IsWanted names (asked_of wanted) wanted
  wanted_is names None p = tt
  wanted_is names (Some (wants.VersionSpecifier set)) p = refl
  wanted_is names (Some (wants.Url u)) p = absurd p

-- the text of a requirement without a URL is its head, and the text after it
text_parts : (name : List ℕ) (extras : List (List ℕ)) (asked : Asked) (tail : List ℕ) → name ++ (extras_text extras ++ (asked_text asked ++ tail)) ≡ head_text name extras asked ++ tail
text_parts name extras asked tail =
    ap (λ (x : List ℕ). name ++ x) (sym (append_assoc (extras_text extras) (asked_text asked) tail)) ∙ sym (append_assoc name (extras_text extras ++ asked_text asked) tail)

module _ {T E : Type 0} (names : List ℕ → Surroundings → T → Type 0) (c : Contents) (name : List ℕ) (extras : List (List ℕ)) (wanted : Option (VersionOrUrl T E)) (t : MarkerTree)
    (plain : IsPlainlyAsked wanted) (printable : IsPrintable name extras (asked_of wanted)) (ascii : IsAscii (head_text name extras (asked_of wanted)))
    (reads_head : (tail left : List ℕ) → IsTailText tail left → IsHead (head_text name extras (asked_of wanted) ++ tail) left name extras (asked_of wanted)) where
  abbrev head : List ℕ
  head = head_text name extras (asked_of wanted)

  whole_chars : (part : List ℕ) → chars (head ++ part) ≡ head ++ chars part
  whole_chars part = chars-append head part (IsUtf8-from_ascii head ascii) ∙ ap (λ (x : List ℕ). x ++ chars part) (chars-IsAscii head ascii)

  read_head : (part tail left : List ℕ) → chars part ≡ tail → IsTailText tail left → IsHead (chars (head ++ part)) left name extras (asked_of wanted)
  read_head part tail left e h = subst (λ (x : List ℕ). IsHead x left name extras (asked_of wanted)) (sym (whole_chars part ∙ ap (λ (x : List ℕ). head ++ x) e)) (reads_head tail left h)

  bare_back : ((v : Valuation) → truth c t v ≡ true) → ReadsBack names c (head ++ []) name extras wanted t
  bare_back always surroundings = (
    [],
    record {
      formula = None;
      requirement = record {
        asked = asked_of wanted;
        rest = [];
        head = read_head [] [] [] chars-nil no_marker;
        is_wanted = wanted_is (λ piece u. names piece surroundings u) wanted plain;
        end = record { marker = None; tail = unmarked refl; says = (refl, refl) };
      };
      no_overflow = λ h. h;
      means = always;
    },
  )

  marked_back : (m : List ℕ) → IsUtf8 m → MarkerReadsBack (truth c t) m → ReadsBack names c (head ++ marker_part (Some m)) name extras wanted t
  unfolding lib.Utf8.encode
  marked_back m utf8 r surroundings = (
    r.kinds,
    record {
      formula = r.formula;
      requirement = record {
        asked = asked_of wanted;
        rest = 59 ∷ (32 ∷ chars m);
        head = read_head (marker_part (Some m)) (32 ∷ (59 ∷ (32 ∷ chars m))) (59 ∷ (32 ∷ chars m)) (part_chars m) marker;
        is_wanted = wanted_is (λ piece u. names piece surroundings u) wanted plain;
        end = record { marker = Some (32 ∷ chars m); tail = marked refl; says = subst (λ (x : List ℕ). Reads (32 ∷ x) r.formula r.kinds) (sym (encodes-chars m utf8)) (reads_spaced m r.formula r.kinds r.reads) };
      };
      no_overflow = r.fits;
      means = λ v. sym (r.means v);
    },
  )

  back : (m : Option (List ℕ)) → ((text : List ℕ) → m ≡ Some text → IsUtf8 text) → TellsText (truth c t) m → IsPrintedTruth (truth c t) → ReadsBack names c (head ++ marker_part m) name extras wanted t
  back None utf8 tells p = bare_back tells
  back (Some m) utf8 tells (inl always) = absurd (true≢false (sym (always tells.somewhere_false.0) ∙ tells.somewhere_false.1))
  back (Some m) utf8 tells (inr r) = marked_back m (utf8 m refl) (tells.read_back r.1.0 r.1.1 r.0)

  -- the text that is made of the parts parses back
  pub read_back : (url_text : T → Option (List ℕ)) (m : Option (List ℕ)) → ((text : List ℕ) → m ≡ Some text → IsUtf8 text) → TellsText (truth c t) m → IsPrintedTruth (truth c t)
      → (text : List ℕ) → ((known : List ℕ) → requirement_text url_text name extras wanted m ≡ Some known → text ≡ known) → ReadsBack names c text name extras wanted t
  read_back url_text m utf8 tells p text is =
      let e : requirement_text url_text name extras wanted m ≡ Some (head ++ marker_part m) =
      ap (λ (x : Option (List ℕ)). option_map (λ (asked : List ℕ). name ++ (extras_text extras ++ (asked ++ marker_part m))) x) (part_is url_text wanted plain)
      ∙ ap Some (text_parts name extras (asked_of wanted) (marker_part m)) in
      subst (λ (x : List ℕ). ReadsBack names c x name extras wanted t) (sym (is (head ++ marker_part m) e)) (back m utf8 tells p)

-- the printed text of the parts has the marker
known_is : (text : List ℕ) (o : Option (List ℕ)) → IfSome o (λ bs. text ≡ bs) → (known : List ℕ) → o ≡ Some known → text ≡ known
known_is text o h known e = subst (λ (o : Option (List ℕ)). IfSome o (λ bs. text ≡ bs)) e h

pub text_told : {R S : Type 0} (bytes : R → List ℕ) (f : Valuation → Bool) (parts : Option (List ℕ) → Option (List ℕ)) (m : Option (List ℕ)) → TellsText f m
    → (result : Result R S) → IfOk result (λ s. IfSome (parts m) (λ bs. bytes s ≡ bs)) → IfOk result (λ s. IsTextOf f parts (bytes s))
text_told bytes f parts m tells (Ok s) h = record { marker = m; tells = tells; text_is = known_is (bytes s) (parts m) h }
text_told bytes f parts m tells (Err e) h = tt

pub text_back : {R S T E : Type 0} (bytes : R → List ℕ) (names : List ℕ → Surroundings → T → Type 0) (c : Contents) (url_text : T → Option (List ℕ))
    (name : List ℕ) (extras : List (List ℕ)) (wanted : Option (VersionOrUrl T E)) (t : MarkerTree) (m : Option (List ℕ))
    → ((text : List ℕ) → m ≡ Some text → IsUtf8 text) → IsNormal name → AllByRecursion IsNormal extras → AreSets wanted
    → ((asked : Asked) → IsPrintable name extras asked → IsAscii (head_text name extras asked))
    → ((asked : Asked) (tail left : List ℕ) → IsPrintable name extras asked → IsTailText tail left → IsHead (head_text name extras asked ++ tail) left name extras asked)
    → TellsText (truth c t) m → (result : Result R S) → IfOk result (λ s. IfSome (requirement_text url_text name extras wanted m) (λ bs. bytes s ≡ bs))
    → IfOk result (λ s. IsPlainlyAsked wanted → IsPrintedTruth (truth c t) → ReadsBack names c (bytes s) name extras wanted t)
text_back bytes names c url_text name extras wanted t m utf8 named normal sets ascii reads tells (Ok s) h = λ plain printed.
    let printable : IsPrintable name extras (asked_of wanted) = record { named = named; extras_are = normal; asks = printed_as wanted plain sets } in
    read_back names c name extras wanted t plain printable (ascii (asked_of wanted) printable) (λ tail left k. reads (asked_of wanted) tail left printable k)
    url_text m utf8 tells printed (bytes s) (known_is (bytes s) (requirement_text url_text name extras wanted m) h)
text_back bytes names c url_text name extras wanted t m utf8 named normal sets ascii reads tells (Err e) h = tt

pub utf8_text : {R : Type 0} (bytes : R → List ℕ) (m : Option R) → IfSome m (λ s. IsUtf8 (bytes s)) → (text : List ℕ) → option_map bytes m ≡ Some text → IsUtf8 text
utf8_text bytes (Some s) h text e = subst (λ (o : Option (List ℕ)). IfSome o IsUtf8) e h
utf8_text bytes None h text e = absurd (subst (λ (o : Option (List ℕ)). IfSome o (λ bs. ⊥)) e tt)
