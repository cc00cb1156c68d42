-- The text of a requirement up to its marker reads back.
use Rattle.std.proofs.Common.{◌≡◌, ◌==◌, ℕ, suc, true, false, List, [], ◌∷◌, ◌++◌, refl, sym, ap, ◌∙◌, subst, append_assoc, append-nil, arith, lit<}
use Rattle.std.specs.Prelude.{encode_utf8_all, codes, if◌then◌else◌}
use Rattle.std.specs.List.{All, list_all, AllByRecursion}
use Rattle.std.specs.Str.{IsAscii, trim}
use Rattle.std.proofs.lemmas.Bool.{and_from, and_parts}
use Rattle.std.proofs.lemmas.List.Folds.{list_all-append}
use Rattle.std.proofs.lemmas.List.Sorted.{IsPermutation-refl}
use Rattle.std.proofs.lemmas.Str.{encodes-IsAscii, IsAscii-append}
use Rattle.std.proofs.lemmas.Str.Ascii.{IsAscii-nil}
use Rattle.pep508_text.specs.Class.{is_comparison, holds, is_name_character}
use Rattle.pep508_text.specs.declared.classes.Class.TheVariants.{Space}
use Rattle.pep508_text.specs.Run.{after_space, run_of, after_run}
use Rattle.pep508_text.proofs.RunLaws.{trimmed_cons, trimmed_after_space}
use Rattle.pep440_specifier.specs.declared.operator.Operator.{Operator}
use Rattle.pep440_specifier.specs.declared.operator.Operator.TheVariants.{Equal, EqualStar, ExactEqual, NotEqual, NotEqualStar, TildeEqual, LessThan, LessThanEqual, GreaterThan, GreaterThanEqual}
use Rattle.pep440_version.specs.Text.{version_text}
use Rattle.pep440_specifier.specs.Operator.{is_star, operator_text}
use Rattle.pep440_specifier.specs.Grammar.{IsOperatorBefore, IsSpecifierText, specifier}
use Rattle.pep440_specifier.specs.Set.{IsSet}
use Rattle.pep440_specifier.specs.Specifier.{IsWellFormed, Specifier}
use Rattle.pep440_specifier.specs.Text.{is_specifier_byte, specifier_text}
use Rattle.pep440_specifier.proofs.ReadBack.{byte-is_plain, reads-back, text-is_plain}
use Rattle.requirement_words.specs.Archive.{IsArchive}
use Rattle.pep508_text.specs.declared.classes.Class.TheVariants as classes
use Rattle.requirement_words.specs.Extras.{IsExtras, left_out as no_extras, some, begins_bracket}
use Rattle.requirement_words.specs.Specifiers.{Pieces, last, more, IsSetOf}
use Rattle.requirement_words.specs.Head.{Asked, nothing, specifiers, url, begins_specifier, ended, marked, IsAsked, left_out, bare, IsHead}
use Rattle.requirement_words.proofs.ExtrasLaws.{not_eqb}
use Rattle.requirement_words.proofs.NameEnds.{name_ascii}
use Rattle.requirement_words.proofs.RunLaws.{run_fails}
use Rattle.requirement_words.specs.Text.{later_names, extras_text, later_specifiers, asked_text, head_text, IsTailText, no_marker, marker, IsNormal, IsPrintedAs, IsPrintable}
use Rattle.requirement_words.proofs.NameText.{run_over, name_at, name_before, name_parts, name_run, names_read, normal_no_archive}
use Rattle.requirement_words.proofs.PlainText.{IsPlain, ascii-cons, plain-ascii, plain-trim, plain-spaced, spaced-ascii}

-- ---- pieces

byte_holds : (b : ℕ) → is_specifier_byte b ≡ true → holds (classes.SpecifierPart 59) b ≡ true
byte_holds b h = let plain = byte-is_plain b h in rw (not_eqb b 44 plain.no_comma, not_eqb b 59 plain.no_semicolon) refl

plain_holds : (t : List ℕ) → IsPlain t → list_all (holds (classes.SpecifierPart 59)) t ≡ true
plain_holds [] h = refl
plain_holds (b ∷ t) h =
    let both_ = and_parts (is_specifier_byte b) (list_all is_specifier_byte t) h in
    and_from _ _ (byte_holds b both_.0) (plain_holds t both_.1)

-- what is read is what the text says without white space around it
same_trimmed : (t u : List ℕ) (s : Specifier) → trim u ≡ trim t → IsSpecifierText t s → IsSpecifierText u s
same_trimmed t u s e (specifier {operator = o} {rest = r} before pattern makes) = specifier (subst (λ (x : List ℕ). IsOperatorBefore x o r) (sym e) before) pattern makes

piece_is : (w x : List ℕ) (s : Specifier) → list_all (holds (classes.SpecifierPart 59)) w ≡ true → IsAscii w → run_of (classes.SpecifierPart 59) x ≡ [] → after_run (classes.SpecifierPart 59) x ≡ x → IsSpecifierText w s
    → IsSpecifierText (encode_utf8_all (run_of (classes.SpecifierPart 59) (w ++ x))) s × (after_run (classes.SpecifierPart 59) (w ++ x) ≡ x)
piece_is w x s all ascii e f h =
    let run = run_over (classes.SpecifierPart 59) w x all e f in
    (subst (λ (t : List ℕ). IsSpecifierText t s) (sym (ap encode_utf8_all run.0 ∙ encodes-IsAscii w ascii)) h, run.1)

-- the first character of an operator
abbrev first_char : Operator → ℕ
first_char Equal = 61
first_char EqualStar = 61
first_char ExactEqual = 61
first_char NotEqual = 33
first_char NotEqualStar = 33
first_char TildeEqual = 126
first_char LessThan = 60
first_char LessThanEqual = 60
first_char GreaterThan = 62
first_char GreaterThanEqual = 62

abbrev other_chars : Operator → List ℕ
other_chars Equal = 61 ∷ []
other_chars EqualStar = 61 ∷ []
other_chars ExactEqual = 61 ∷ (61 ∷ [])
other_chars NotEqual = 61 ∷ []
other_chars NotEqualStar = 61 ∷ []
other_chars TildeEqual = 61 ∷ []
other_chars LessThan = []
other_chars LessThanEqual = 61 ∷ []
other_chars GreaterThan = []
other_chars GreaterThanEqual = 61 ∷ []

record First (o : Operator) : Type 0 where
  is : operator_text o ≡ first_char o ∷ other_chars o
  unnamed : is_name_character (first_char o) ≡ false
  begins : is_comparison (first_char o) ≡ true
  dark : holds Space (first_char o) ≡ false
  no_bracket : (first_char o == 91) ≡ false

first_of : (o : Operator) → First o
first_of o = grind arith

-- a specifier's text begins with it
begins_with : (a b back x : List ℕ) (c : ℕ) → a ≡ c ∷ b → (w : List ℕ) × ((a ++ back) ++ x ≡ c ∷ w)
begins_with a b back x c e = ((b ++ back) ++ x, ap (λ (t : List ℕ). (t ++ back) ++ x) e)

specifier_first : (s : Specifier) (x : List ℕ) → (w : List ℕ) × (specifier_text s ++ x ≡ first_char s.operator ∷ w)
specifier_first s x =
    begins_with (operator_text s.operator) (other_chars s.operator) (version_text s.version ++ (if is_star s.operator then codes ".*" else [])) x
    (first_char s.operator) (first_of s.operator).is

not_nil : (c : ℕ) (w : List ℕ) → c ∷ w ≡ [] → ⊥
not_nil c w e = cc

-- a specifier and a space
spaced : (s : Specifier) → IsWellFormed s → IsSpecifierText (specifier_text s ++ (32 ∷ [])) s
spaced s good = go (specifier_text s) refl (text-is_plain s good) (specifier_first s [])
  where
    go : (t : List ℕ) → specifier_text s ≡ t → IsPlain t → ((w : List ℕ) × (specifier_text s ++ [] ≡ first_char s.operator ∷ w)) → IsSpecifierText (specifier_text s ++ (32 ∷ [])) s
    go [] e h first = absurd (not_nil _ _ (sym first.1 ∙ append-nil (specifier_text s) ∙ e))
    go (b ∷ t) e h first =
        same_trimmed (specifier_text s) (specifier_text s ++ (32 ∷ [])) s
        (ap (λ (x : List ℕ). trim (x ++ (32 ∷ []))) e ∙ plain-spaced b t h ∙ sym (plain-trim (b ∷ t) h) ∙ ap trim (sym e)) (reads-back s good)

pub pieces_read : (s : Specifier) (ss : List Specifier) (tail left : List ℕ) → IsTailText tail left → AllByRecursion IsWellFormed (s ∷ ss) → Pieces 59 (specifier_text s ++ (later_specifiers ss ++ tail)) left (s ∷ ss)
pieces_read s [] tail left no_marker all =
    let plain = text-is_plain s all.0 in
    let h = piece_is (specifier_text s) [] s (plain_holds (specifier_text s) plain) (plain-ascii (specifier_text s) plain) refl refl (reads-back s all.0) in
    last h.0 h.1 refl
pieces_read s [] tail left (marker {text = m}) all =
    let plain = text-is_plain s all.0 in
    let w = specifier_text s ++ (32 ∷ []) in
    let holds_all : list_all (holds (classes.SpecifierPart 59)) w ≡ true = list_all-append (holds (classes.SpecifierPart 59)) (specifier_text s) (32 ∷ []) ∙ and_from _ _ (plain_holds (specifier_text s) plain) refl in
    let ascii : IsAscii w = spaced-ascii (specifier_text s) (plain-ascii (specifier_text s) plain) in
    let h = piece_is w (59 ∷ m) s holds_all ascii refl refl (spaced s all.0) in
    subst (λ (x : List ℕ). Pieces 59 x (59 ∷ m) (s ∷ [])) (append_assoc (specifier_text s) (32 ∷ []) (59 ∷ m)) (last h.0 h.1 refl)
pieces_read s (t ∷ ss) tail left e all =
    let plain = text-is_plain s all.0 in
    let others = pieces_read t ss tail left e all.1 in
    let back : List ℕ = specifier_text t ++ (later_specifiers ss ++ tail) in
    let h = piece_is (specifier_text s) (44 ∷ back) s (plain_holds (specifier_text s) plain) (plain-ascii (specifier_text s) plain) refl refl (reads-back s all.0) in
    subst (λ (x : List ℕ). Pieces 59 (specifier_text s ++ (44 ∷ x)) left (s ∷ (t ∷ ss))) (sym (append_assoc (specifier_text t) (later_specifiers ss) tail)) (more h.0 h.1 others)

-- ---- bodies

-- the printed text after the name and the extras
record IsAskedText (text left : List ℕ) (asked : Asked) : Type 0 where
  no_name : run_of classes.NamePart text ≡ []
  rest : after_run classes.NamePart text ≡ text
  no_bracket : begins_bracket (after_space text) ≡ false
  body : IsAsked (after_space text) left asked

bare_text : (tail left : List ℕ) → IsTailText tail left → IsAskedText tail left nothing
bare_text tail left no_marker = record { no_name = refl; rest = refl; no_bracket = refl; body = left_out ended }
bare_text tail left marker = record { no_name = refl; rest = refl; no_bracket = refl; body = left_out marked }

specifiers_text : (s : Specifier) (ss : List Specifier) (tail left : List ℕ) → IsTailText tail left → IsSetOf (s ∷ ss) (s ∷ ss) → AllByRecursion IsWellFormed (s ∷ ss) → IsAskedText (specifier_text s ++ (later_specifiers ss ++ tail)) left (specifiers (s ∷ ss))
specifiers_text s ss tail left e is_set all =
    let first = specifier_first s (later_specifiers ss ++ tail) in
    let f = first_of s.operator in
    let fails = run_fails classes.NamePart (first_char s.operator) first.0 f.unnamed in
    let text : List ℕ = specifier_text s ++ (later_specifiers ss ++ tail) in
    let trimmed : after_space text ≡ text = ap after_space first.1 ∙ trimmed_cons (first_char s.operator) first.0 f.dark ∙ sym first.1 in
    let here : IsAsked text left (specifiers (s ∷ ss)) = bare (ap begins_specifier first.1 ∙ f.begins) (record { list = s ∷ ss; pieces = pieces_read s ss tail left e all; is_set = is_set }) in
    record {
      no_name = ap (run_of classes.NamePart) first.1 ∙ fails.0;
      rest = ap (after_run classes.NamePart) first.1 ∙ fails.1 ∙ sym first.1;
      no_bracket = ap begins_bracket trimmed ∙ ap begins_bracket first.1 ∙ f.no_bracket;
      body = subst (λ (x : List ℕ). IsAsked x left (specifiers (s ∷ ss))) (sym trimmed) here;
    }

-- each specifier, one by one
all_good : (set : List Specifier) → All IsWellFormed set → AllByRecursion IsWellFormed set
all_good [] h = tt
all_good (s ∷ ss) h = (h 0 s (omega arith), all_good ss (λ k d less. h (suc k) d (omega arith)))

-- the set of a list that is sorted
set_itself : (set : List Specifier) → IsSet set → IsSetOf set set
set_itself set s = record { same = IsPermutation-refl set; sorted = s.sorted; stable = λ x. refl }

head_of : (name : List ℕ) (extras : List (List ℕ)) (asked : Asked) (text left : List ℕ) → IsNormal name → AllByRecursion IsNormal extras → IsAskedText text left asked → IsHead (name ++ (extras_text extras ++ text)) left name extras asked
head_of name [] asked text left h all b = record {
  after_name = text;
  after_extras = after_space text;
  named = name_at name text h b.no_name b.rest;
  extras_are = no_extras b.no_bracket;
  asks = record {
    asks = subst (λ (x : List ℕ). IsAsked x left asked) (sym (trimmed_after_space text)) b.body;
    no_archive = λ e a. normal_no_archive name h (subst IsArchive (name_run name text h b.no_name b.rest) a);
  };
}
head_of name (n ∷ ns) asked text left h all b =
    let back : List ℕ = n ++ (later_names ns ++ (93 ∷ text)) in
    let inside : IsExtras (91 ∷ back) text (n ∷ ns) = some (names_read n ns text all.0 all.1) in
    let fails = run_fails classes.NamePart 91 back refl in
    let here : IsHead (name ++ (91 ∷ back)) left name (n ∷ ns) asked = record {
      after_name = 91 ∷ back;
      after_extras = text;
      named = name_before name 91 back h refl;
      extras_are = subst (λ (x : List ℕ). IsExtras x text (n ∷ ns)) (sym (trimmed_cons 91 back refl)) inside;
      asks = record {
        asks = b.body;
        no_archive = λ e a. normal_no_archive name h (subst IsArchive (name_run name (91 ∷ back) h fails.0 fails.1) a);
      };
    } in
    let same : (n ++ (later_names ns ++ (93 ∷ []))) ++ text ≡ back =
    append_assoc n (later_names ns ++ (93 ∷ [])) text ∙ ap (λ (x : List ℕ). n ++ x) (append_assoc (later_names ns) (93 ∷ []) text) in
    subst (λ (x : List ℕ). IsHead (name ++ (91 ∷ x)) left name (n ∷ ns) asked) (sym same) here

body_text : (asked : Asked) (tail left : List ℕ) → IsPrintedAs asked → IsTailText tail left → IsAskedText (asked_text asked ++ tail) left asked
body_text nothing tail left a e = bare_text tail left e
body_text (specifiers []) tail left a e = absurd a
body_text (specifiers (s ∷ ss)) tail left a e =
    subst (λ (x : List ℕ). IsAskedText x left (specifiers (s ∷ ss))) (sym (append_assoc (specifier_text s) (later_specifiers ss) tail))
    (specifiers_text s ss tail left e (set_itself (s ∷ ss) a) (all_good (s ∷ ss) a.each))
body_text (url text) tail left a e = absurd a

pub head_reads : (name : List ℕ) (extras : List (List ℕ)) (asked : Asked) (tail left : List ℕ) → IsPrintable name extras asked → IsTailText tail left → IsHead (head_text name extras asked ++ tail) left name extras asked
head_reads name extras asked tail left h1 h2 = grind (arith, head_of, body_text, append_assoc)

-- ---- the text is ASCII

normal_ascii : (n : List ℕ) → IsNormal n → IsAscii n
normal_ascii n h = name_ascii n (name_parts n h)

later_ascii : (ns : List (List ℕ)) → AllByRecursion IsNormal ns → IsAscii (later_names ns)
later_ascii [] all = IsAscii-nil
later_ascii (n ∷ ns) all = ascii-cons 44 (n ++ later_names ns) (lit< tt) (IsAscii-append n (later_names ns) (normal_ascii n all.0) (later_ascii ns all.1))

extras_ascii : (ns : List (List ℕ)) → AllByRecursion IsNormal ns → IsAscii (extras_text ns)
extras_ascii [] all = IsAscii-nil
extras_ascii (n ∷ ns) all =
    ascii-cons 91 (n ++ (later_names ns ++ (93 ∷ []))) (lit< tt)
    (IsAscii-append n (later_names ns ++ (93 ∷ [])) (normal_ascii n all.0) (IsAscii-append (later_names ns) (93 ∷ []) (later_ascii ns all.1) (ascii-cons 93 [] (lit< tt) IsAscii-nil)))

pieces_ascii : (ss : List Specifier) → AllByRecursion IsWellFormed ss → IsAscii (later_specifiers ss)
pieces_ascii [] all = IsAscii-nil
pieces_ascii (s ∷ ss) all =
    ascii-cons 44 (specifier_text s ++ later_specifiers ss) (lit< tt)
    (IsAscii-append (specifier_text s) (later_specifiers ss) (plain-ascii (specifier_text s) (text-is_plain s all.0)) (pieces_ascii ss all.1))

asked_ascii : (asked : Asked) → IsPrintedAs asked → IsAscii (asked_text asked)
asked_ascii nothing a = IsAscii-nil
asked_ascii (specifiers []) a = absurd a
asked_ascii (specifiers (s ∷ ss)) a =
    let all = all_good (s ∷ ss) a.each in
    IsAscii-append (specifier_text s) (later_specifiers ss) (plain-ascii (specifier_text s) (text-is_plain s all.0)) (pieces_ascii ss all.1)
asked_ascii (url text) a = absurd a

pub head_ascii : (name : List ℕ) (extras : List (List ℕ)) (asked : Asked) → IsPrintable name extras asked → IsAscii (head_text name extras asked)
head_ascii name extras asked p =
    IsAscii-append name (extras_text extras ++ asked_text asked) (normal_ascii name p.named)
    (IsAscii-append (extras_text extras) (asked_text asked) (extras_ascii extras p.extras_are) (asked_ascii asked p.asks))
