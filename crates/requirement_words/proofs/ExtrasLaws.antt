-- Reading a list of extras name by name.
use Rattle.std.proofs.Common.{◌≡◌, ◌≢◌, ◌||◌, ℕ, Bool, true, false, eqb, List, [], ◌∷◌, ◌++◌, length, refl, sym, ap, ◌∙◌, subst, append_assoc, length-append, arith, lit<, IsUtf8}
use Rattle.std.specs.Prelude.{encode_utf8, encode_utf8_all, IsTrue, IsSomeAnd, slice_get}
use Rattle.std.specs.Char.{is_ascii_alphanumeric, is_whitespace}
use Rattle.std.specs.List.{list_all}
use Rattle.std.specs.Str.{chars}
use Rattle.std.proofs.lemmas.Bool.{false≢true}
use Rattle.std.proofs.lemmas.List.{nil_from_length}
use Rattle.std.proofs.lemmas.Str.{encode_ascii, encodes-chars}
use Rattle.pep508_text.specs.Run.{Run, after_space, run_of, after_run}
use Rattle.pep508_text.specs.Suffix.{IsSuffix}
use Rattle.pep508_text.specs.declared.classes.Class.{Class}
use Rattle.pep508_text.specs.declared.classes.Class.TheVariants.{Space, NamePart}
use Rattle.pep508_text.proofs.RunLaws.{after_run-first, run_all, trimmed_after_space}
use Rattle.pep508_text.specs.Class.{is_name_character, is_separator}
use Rattle.pep508_names.specs.Name.{NormalizesTo, IsName}
use Rattle.refusal.specs.declared.Refusal.{Refusal}
use Rattle.refusal.specs.declared.Refusal.TheVariants as refusals
use Rattle.pep508_names.specs.Fault.{IsNameRefusal}
use Rattle.pep508_names.proofs.IdentifierLaws.{names_are_identifiers}
use Rattle.requirement_words.specs.Fault.{begins_name, FindsInExtras, unclosed, IsCutOff, IsFaultAt, Listed, may_follow_extra}
use Rattle.requirement_words.specs.Fault as faults
use Rattle.requirement_words.specs.Url.{begins_space}
use Rattle.requirement_words.specs.declared.fault.FaultKind.{FaultKind}
use Rattle.requirement_words.specs.declared.fault.FaultKind.TheVariants.{UnclosedBracket}
use Rattle.requirement_words.specs.Extras.{IsNameAt, Names, last, more, IsExtras, left_out, none, some, begins_bracket}
use Rattle.requirement_words.proofs.Characters.{firsts, tails}
use Rattle.requirement_words.proofs.NameEnds.{EndsSeparator, ends_separator, name_byte}
use Rattle.requirement_words.proofs.FaultLaws.{fault_behind}
use Rattle.requirement_words.proofs.RunLaws.{run_fails, run_holds}

-- what follows a name is determined
pub name_rest : {i a b m n : List ℕ} → IsNameAt i a m → IsNameAt i b n → a ≡ b
name_rest x y = sym x.rest ∙ y.rest

-- how the whole continues: the names so far, and then those that are left
pub record Reading (text left : List ℕ) (names : List (List ℕ)) : Type 0 where
  pub suffix : IsSuffix text left
  pub found : (output : List ℕ) (ns : List (List ℕ)) → Names (chars left) output ns → IsExtras (chars text) output (names ++ ns)
  pub only : (output : List ℕ) (ns : List (List ℕ)) → IsExtras (chars text) output ns → (others : List (List ℕ)) × Names (chars left) output others

-- the same, and another name may be here
pub record Going (text inside left : List ℕ) (names : List (List ℕ)) : Type 0 where
  pub reading : Reading text left names
  pub listed : Listed (chars inside) names (after_space (chars left))

-- after the bracket
found_start : (i inside output : List ℕ) (ns : List (List ℕ)) → i ≡ 91 ∷ inside → Names inside output ns → IsExtras i output ns
found_start i inside output ns e h = subst (λ (x : List ℕ). IsExtras x output ns) (sym e) (some h)

only_start : (i inside output : List ℕ) (ns : List (List ℕ)) → i ≡ 91 ∷ inside → ((rest : List ℕ) → after_space inside ≢ 93 ∷ rest) → IsExtras i output ns → (others : List (List ℕ)) × Names inside output others
only_start i inside output ns h1 h2 h3 = grind arith

pub reading_start : (text inside : List ℕ) → IsSuffix text inside → chars text ≡ 91 ∷ chars inside → ((rest : List ℕ) → after_space (chars inside) ≢ 93 ∷ rest) → Reading text inside []
reading_start text inside suffix e open_ = record {
  suffix = suffix;
  found = λ output ns h. found_start _ _ output ns e h;
  only = λ output ns h. only_start _ _ output ns e open_ h;
}

-- one name, and a comma
only_more : (i rest next output : List ℕ) (n : List ℕ) (ns : List (List ℕ)) → IsNameAt (after_space i) rest n → after_space rest ≡ 44 ∷ next → Names i output ns → (others : List (List ℕ)) × Names next output others
only_more i rest next output n ns h1 h2 h3 = grind arith

pub reading_more : (text left rest next : List ℕ) (n : List ℕ) (names : List (List ℕ)) → Reading text left names → IsSuffix text next → IsNameAt (after_space (chars left)) (chars rest) n → after_space (chars rest) ≡ 44 ∷ chars next → Reading text next (names ++ (n ∷ []))
reading_more text left rest next n names reading suffix name comma = record {
  suffix = suffix;
  found = λ output ns h. subst (IsExtras (chars text) output) (sym (append_assoc names (n ∷ []) ns)) (reading.found output (n ∷ ns) (more name comma h));
  only = λ output ns h. let g = reading.only output ns h in only_more _ _ _ output n g.0 name comma g.1;
}

-- one name, and the bracket
pub reading_closed : (text left rest output : List ℕ) (n : List ℕ) (names : List (List ℕ)) → Reading text left names → IsNameAt (after_space (chars left)) (chars rest) n → after_space (chars rest) ≡ 93 ∷ chars output → IsExtras (chars text) (chars output) (names ++ (n ∷ []))
reading_closed text left rest output n names reading name bracket = reading.found (chars output) (n ∷ []) (last name bracket)

-- one name, and neither
no_more : (i rest output n : List ℕ) (ns : List (List ℕ)) → IsNameAt (after_space i) rest n → ((x : List ℕ) → after_space rest ≢ 93 ∷ x) → ((x : List ℕ) → after_space rest ≢ 44 ∷ x) → Names i output ns → ⊥
no_more i rest output n ns h1 h2 h3 h4 = grind arith

pub none_more : (text left rest n : List ℕ) (names : List (List ℕ)) → Reading text left names → IsNameAt (after_space (chars left)) (chars rest) n → ((x : List ℕ) → after_space (chars rest) ≢ 93 ∷ x) → ((x : List ℕ) → after_space (chars rest) ≢ 44 ∷ x) → (output : List ℕ) (ns : List (List ℕ)) → ¬ IsExtras (chars text) output ns
none_more text left rest n names reading name open_ alone output ns h =
    let g = reading.only output ns h in
    no_more _ _ output n g.0 name open_ alone g.1

-- no name
no_name : (i output : List ℕ) (ns : List (List ℕ)) → ((o n : List ℕ) → ¬ IsNameAt (after_space i) o n) → Names i output ns → ⊥
no_name i output ns unnamed (last {a = a} {n = n} name bracket) = unnamed a n name
no_name i output ns unnamed (more {a = a} {n = n} name comma h) = unnamed a n name

pub none_name : (text left : List ℕ) (names : List (List ℕ)) → Reading text left names → ((o n : List ℕ) → ¬ IsNameAt (after_space (chars left)) o n) → (output : List ℕ) (ns : List (List ℕ)) → ¬ IsExtras (chars text) output ns
none_name text left names reading unnamed output ns h = grind (arith, no_name)

-- no bracket
no_bracket : (t : List ℕ) → ((rest : List ℕ) → t ≢ 91 ∷ rest) → begins_bracket t ≡ false
no_bracket t h1 = grind arith

pub without_bracket : (t : List ℕ) (names : List (List ℕ)) → names ≡ [] → ((rest : List ℕ) → t ≢ 91 ∷ rest) → IsExtras t t names
without_bracket t names e h = subst (IsExtras t t) (sym e) (left_out (no_bracket t h))

-- nothing between the brackets
pub none_inside : (i inside inner output : List ℕ) (names : List (List ℕ)) → names ≡ [] → i ≡ 91 ∷ inside → inner ≡ after_space inside → inner ≡ 93 ∷ output → IsExtras i output names
none_inside i inside inner output names none_yet e skipped bracket =
    let there : IsExtras (91 ∷ inside) output [] = none (sym skipped ∙ bracket) in
    let here : IsExtras i output [] = subst (λ (x : List ℕ). IsExtras x output []) (sym e) there in
    subst (IsExtras i output) (sym none_yet) here

-- what follows extras is determined
names_rest : {i o p : List ℕ} {ns ms : List (List ℕ)} → Names i o ns → Names i p ms → o ≡ p
names_rest (last {a = a} {output = o} x bracket) (last {a = b} {output = p} y other) =
    tails 93 o p (after_space a) (after_space b) (ap after_space (name_rest x y)) bracket other
names_rest (last {a = a} {output = o} x bracket) (more {a = b} {b = q} y comma more_) =
    absurd (firsts 44 93 q o (after_space b) (after_space a) (ap after_space (name_rest y x)) comma bracket (lit< tt))
names_rest (more {a = a} {b = q} x comma more_) (last {a = b} {output = p} y bracket) =
    absurd (firsts 44 93 q p (after_space a) (after_space b) (ap after_space (name_rest x y)) comma bracket (lit< tt))
names_rest (more {a = a} {b = q} {output = o} {ns = ns} x comma h) (more {a = b} {b = r} y other g) =
    let same : q ≡ r = tails 44 q r (after_space a) (after_space b) (ap after_space (name_rest x y)) comma other in
    names_rest (subst (λ (z : List ℕ). Names z o ns) same h) g

-- no name begins with the bracket
empty_front : (w t : List ℕ) → w ++ t ≡ [] → w ≡ []
empty_front [] t e = refl
empty_front (c ∷ w) t e = absurd cc

unnamed : {t n : List ℕ} → NormalizesTo t n → t ≡ [] → ⊥
unnamed h1 h2 = grind (arith, empty_front)

no_name_at : {i o a n : List ℕ} → i ≡ 93 ∷ o → IsNameAt i a n → ⊥
no_name_at {i} {o} e name = unnamed name.name (ap (λ (x : List ℕ). encode_utf8_all (run_of NamePart x)) e)

pub closed_name : {i o p : List ℕ} {ns : List (List ℕ)} → after_space i ≡ 93 ∷ o → Names i p ns → ⊥
closed_name e (last name bracket) = no_name_at e name
closed_name e (more name comma h) = no_name_at e name

pub extras_rest : {i o p : List ℕ} {ns ms : List (List ℕ)} → IsExtras i o ns → IsExtras i p ms → o ≡ p
extras_rest h1 h2 = grind (arith, false≢true, tails, closed_name, names_rest)

-- ---- what is wrong

-- what begins as a name is not empty
pub begun : (t : List ℕ) → begins_name t ≡ true → (c : ℕ) × (cs : List ℕ) × (t ≡ c ∷ cs) × (is_ascii_alphanumeric c ≡ true)
begun t h1 = grind arith

pub is_run : {class : Class} {input run output : List ℕ} → run ≡ run_of class input → output ≡ after_run class input → Run class input run output
is_run e f = record { run_is = sym e; rest_is = sym f }

-- a run that begins like a name and is invalid ends with a separator
pub run_ends : (text rest : List ℕ) {run : List ℕ} → Run NamePart (chars text) (chars run) (chars rest) → IsUtf8 run → begins_name (chars text) ≡ true → ¬ IsName run → EndsSeparator run
run_ends text rest {run} r utf8 begins none_ =
    let b = begun (chars text) begins in
    let holds_ : is_name_character b.0 ≡ true = ap (λ (x : Bool). x || is_separator b.0) b.3 in
    let first : chars run ≡ b.0 ∷ run_of NamePart b.1 = sym r.run_is ∙ ap (run_of NamePart) b.2 ∙ (run_holds NamePart b.0 b.1 holds_).0 in
    ends_separator run (run_of NamePart b.1) b.0 utf8 first
    (ap (list_all is_name_character) (sym r.run_is) ∙ run_all NamePart (chars text)) b.3 none_

-- the name of an extra, which the reader of names has read
pub named : (left place run rest n : List ℕ) → chars place ≡ after_space (chars left) → run ≡ encode_utf8_all (run_of NamePart (chars place)) → chars rest ≡ after_run NamePart (chars place)
    → NormalizesTo run n → IsNameAt (after_space (chars left)) (chars rest) n
named left place run rest n h1 h2 h3 h4 = grind arith

-- no name
pub not_named : (left place run : List ℕ) → chars place ≡ after_space (chars left) → run ≡ encode_utf8_all (run_of NamePart (chars place)) → ¬ IsName run
    → (o n : List ℕ) → ¬ IsNameAt (after_space (chars left)) o n
not_named left place run h1 h2 h3 o n = grind arith

pub nothing_named : (left place : List ℕ) → chars place ≡ after_space (chars left) → chars place ≡ [] → (o n : List ℕ) → ¬ IsNameAt (after_space (chars left)) o n
nothing_named left place place_is e o n h = unnamed h.name (ap (λ (x : List ℕ). encode_utf8_all (run_of NamePart x)) (sym place_is ∙ e))

first_byte : (t : List ℕ) (c : ℕ) (cs : List ℕ) → IsName t → t ≡ c ∷ cs → is_ascii_alphanumeric c ≡ true
first_byte t c cs h e = subst (λ (x : List ℕ). IsSomeAnd (slice_get x 0) (λ d. IsTrue (is_ascii_alphanumeric d))) e ((names_are_identifiers t).0 h).first

pub begins_unnamed : (t : List ℕ) (c : ℕ) (cs o n : List ℕ) → t ≡ c ∷ cs → is_ascii_alphanumeric c ≡ false → ¬ IsNameAt t o n
begins_unnamed t c cs o n e other h = go (is_name_character c) refl
  where
    go : (b : Bool) → is_name_character c ≡ b → ⊥
    go true is =
        let run = (run_holds NamePart c cs is).0 in
        let bytes : encode_utf8_all (run_of NamePart t) ≡ c ∷ encode_utf8_all (run_of NamePart cs) =
        ap (λ (x : List ℕ). encode_utf8_all (run_of NamePart x)) e ∙ ap encode_utf8_all run ∙ ap (λ (x : List ℕ). x ++ encode_utf8_all (run_of NamePart cs)) (encode_ascii c (name_byte c is)) in
        false≢true (sym other ∙ first_byte _ c _ (n, h.name) bytes)
    go false is = unnamed h.name (ap (λ (x : List ℕ). encode_utf8_all (run_of NamePart x)) e ∙ ap encode_utf8_all (run_fails NamePart c cs is).0)

pub not_begun : (left place : List ℕ) (c : ℕ) (cs : List ℕ) → chars place ≡ after_space (chars left) → chars place ≡ c ∷ cs → is_ascii_alphanumeric c ≡ false
    → (o n : List ℕ) → ¬ IsNameAt (after_space (chars left)) o n
not_begun left place c cs place_is e other o n h = begins_unnamed (chars place) c cs o n e other (subst (λ (x : List ℕ). IsNameAt x o n) (sym place_is) h)

-- a name begins as one
pub name_begins : {here rest n : List ℕ} → IsNameAt here rest n → begins_name here ≡ true
name_begins {here = []} name = absurd (unnamed name.name refl)
name_begins {here = c ∷ cs} {rest = rest} {n = n} name = go (is_ascii_alphanumeric c) refl
  where
    go : (b : Bool) → is_ascii_alphanumeric c ≡ b → b ≡ true
    go true e = refl
    go false e = absurd (begins_unnamed (c ∷ cs) c cs rest n refl e name)

-- ---- another name may be here

no_append : (names : List (List ℕ)) (n : List ℕ) → names ++ (n ∷ []) ≡ [] → ⊥
no_append [] n e = absurd cc
no_append (m ∷ names) n e = absurd cc

-- the first is directly after the bracket
pub listed_first : {inside here : List ℕ} {names : List (List ℕ)} → Listed inside names here → names ≡ [] → here ≡ after_space inside
listed_first faults.none e = refl
listed_first (faults.more {names = names} {n = n} listed name comma) e = absurd (no_append names n e)

pub going_start : (text inside : List ℕ) (names : List (List ℕ)) → names ≡ [] → IsSuffix text inside → chars text ≡ 91 ∷ chars inside → ((rest : List ℕ) → after_space (chars inside) ≢ 93 ∷ rest) → Going text inside inside names
going_start text inside names e suffix bracket open_ =
    let first : Listed (chars inside) [] (after_space (chars inside)) = faults.none in
    record {
      reading = subst (Reading text inside) (sym e) (reading_start text inside suffix bracket open_);
      listed = subst (λ (x : List (List ℕ)). Listed (chars inside) x (after_space (chars inside))) (sym e) first;
    }

pub going_more : (text inside left rest behind next n : List ℕ) (names new : List (List ℕ)) → Going text inside left names → IsNameAt (after_space (chars left)) (chars rest) n
    → chars behind ≡ after_space (chars rest) → chars behind ≡ 44 ∷ chars next → IsSuffix text next → new ≡ names ++ (n ∷ []) → Going text inside next new
going_more text inside left rest behind next n names new going name behind_is comma suffix e = record {
  reading = subst (Reading text next) (sym e) (reading_more text left rest next n names going.reading suffix name (sym behind_is ∙ comma));
  listed = subst (λ (x : List (List ℕ)). Listed (chars inside) x (after_space (chars next))) (sym e) (faults.more going.listed name (sym behind_is ∙ comma));
}

-- ---- faults

-- a fault of the text in the brackets is one of the text
pub in_text : {text here piece : List ℕ} {kind : FaultKind} {left : ℕ} (inside : List ℕ) → IsSuffix text here → chars text ≡ 91 ∷ inside → IsFaultAt (FindsInExtras (91 ∷ inside)) here kind piece left → IsFaultAt (FindsInExtras (chars text)) text kind piece left
in_text {text} inside suffix bracket f =
    fault_behind (FindsInExtras (91 ∷ inside)) (FindsInExtras (chars text)) suffix (λ k p b g. subst (λ (x : List ℕ). FindsInExtras x k p b) (sym bracket) g) f

-- the bracket itself
pub never_closed : {text inside piece : List ℕ} → chars text ≡ 91 ∷ chars inside → text ≡ piece ++ inside → piece ≡ encode_utf8 91 → IsCutOff (chars inside) → FindsInExtras (chars text) UnclosedBracket piece inside
never_closed {text} {inside} {piece} bracket text_is piece_is cut =
    let there : FindsInExtras (91 ∷ chars inside) UnclosedBracket piece inside = unclosed (ap chars (sym text_is) ∙ bracket) (piece_is ∙ encode_ascii 91 (lit< tt)) cut in
    subst (λ (x : List ℕ). FindsInExtras x UnclosedBracket piece inside) (sym bracket) there

-- ---- after a name

pub not_eqb : (c d : ℕ) → c ≢ d → eqb c d ≡ false
not_eqb c d h1 = grind arith

-- what begins with no white space
pub trimmed_first : (c : ℕ) (cs t : List ℕ) → after_space t ≡ t → t ≡ c ∷ cs → is_whitespace c ≡ false
trimmed_first c cs t trimmed e = after_run-first Space c cs t trimmed e

-- the text after a name and white space does not directly follow a name
pub not_followed : (rest behind : List ℕ) (c : ℕ) (cs : List ℕ) → chars behind ≡ after_space (chars rest) → chars behind ≡ c ∷ cs → c ≢ 44 → c ≢ 93 → may_follow_extra c ≡ false
not_followed rest behind c cs skipped e comma bracket =
    let trimmed : after_space (chars behind) ≡ chars behind = ap after_space skipped ∙ trimmed_after_space (chars rest) ∙ sym skipped in
    rw (not_eqb c 44 comma, not_eqb c 93 bracket) (trimmed_first c cs (chars behind) trimmed e)

-- nothing was skipped, or white space was
pub nothing_skipped : (rest behind : List ℕ) → IsSuffix rest behind → length behind ≡ length rest → behind ≡ rest
nothing_skipped rest behind h1 h2 = grind (arith, nil_from_length, length, length-append)

space_skipped : (t : List ℕ) → (after_space t ≡ t → ⊥) → begins_space t ≡ true
space_skipped t h1 = grind arith

pub something_skipped : (rest behind : List ℕ) → IsUtf8 rest → IsUtf8 behind → chars behind ≡ after_space (chars rest) → length behind ≢ length rest → begins_space (chars rest) ≡ true
something_skipped rest behind utf8 behind_utf8 skipped other =
    space_skipped (chars rest) (λ same. other (ap length (sym (encodes-chars behind behind_utf8) ∙ ap encode_utf8_all (skipped ∙ same) ∙ encodes-chars rest utf8)))

-- a text that the parser of names rejects is an invalid name
pub refused_name : (t x : List ℕ) (r : Refusal (List ℕ)) → r ≡ refusals.Fault x → IsNameRefusal t r → ¬ IsName t
refused_name t x r e h = (subst (IsNameRefusal t) e h).1
