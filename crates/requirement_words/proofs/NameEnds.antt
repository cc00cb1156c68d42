-- The last character of a run of a name's characters.
use Rattle.std.proofs.Common.{◌≡◌, ◌||◌, ◌+◌, ◌-◌, ◌<◌, ℕ, Bool, Option, true, false, List, [], ◌∷◌, ◌++◌, length, refl, sym, ap, ◌∙◌, subst, arith, length-append, IsUtf8}
use Rattle.std.specs.Prelude.{IsTrue, IsSomeAnd, slice_get, Some}
use Rattle.std.specs.Char.{is_ascii_alphanumeric}
use Rattle.std.specs.List.{list_all}
use Rattle.std.specs.Str.{chars, IsAscii}
use Rattle.std.proofs.lemmas.Bool.{and_parts}
use Rattle.std.proofs.lemmas.Bool.Decides.{nat_tests}
use Rattle.std.proofs.lemmas.List.Folds.{list_all-append}
use Rattle.std.proofs.lemmas.Option.{slice_get-get_or}
use Rattle.std.proofs.Math.Seq.{get_or-append_seam}
use Rattle.std.proofs.lemmas.Str.{encodes-IsAscii, encodes-chars}
use Rattle.pep508_text.specs.Class.{is_name_character, is_separator}
use Rattle.pep508_names.specs.Name.{IsName}
use Rattle.pep508_names.proofs.IdentifierLaws as identifiers
use Rattle.requirement_words.proofs.FaultLaws.{last_of}

pub name_byte : (c : ℕ) → is_name_character c ≡ true → c < 128
name_byte c h = grind (arith, nat_tests)

ascii-cons : (b : ℕ) (t : List ℕ) → b < 128 → IsAscii t → IsAscii (b ∷ t)
ascii-cons b t h1 h2 = grind arith

pub name_ascii : (cs : List ℕ) → list_all is_name_character cs ≡ true → IsAscii cs
name_ascii [] h = λ i. omega arith
name_ascii (c ∷ cs) h =
    let parts = and_parts (is_name_character c) (list_all is_name_character cs) h in
    ascii-cons c cs (name_byte c parts.0) (name_ascii cs parts.1)

-- a run of a name's characters is its bytes
pub run_bytes : (run : List ℕ) → IsUtf8 run → list_all is_name_character (chars run) ≡ true → run ≡ chars run
run_bytes run utf8 all = sym (encodes-chars run utf8) ∙ encodes-IsAscii (chars run) (name_ascii (chars run) all)

last_get : (front : List ℕ) (c : ℕ) → slice_get (front ++ (c ∷ [])) (length (front ++ (c ∷ [])) - 1) ≡ Some c
last_get front c =
    let size : length (front ++ (c ∷ [])) ≡ length front + 1 = length-append front (c ∷ []) in
    let place : length (front ++ (c ∷ [])) - 1 ≡ length front = omega arith in
    ap (slice_get (front ++ (c ∷ []))) place
    ∙ slice_get-get_or (front ++ (c ∷ [])) (length front) 0 (omega arith)
    ∙ ap (λ (x : ℕ). Some x) (get_or-append_seam front c [] 0)

some_and : (P : ℕ → Type 0) (o : Option ℕ) (c : ℕ) → o ≡ Some c → P c → IsSomeAnd o P
some_and P o c e h = subst (λ (x : Option ℕ). IsSomeAnd x P) (sym e) h

abbrev alphanumeric : ℕ → Type 0
alphanumeric x = IsTrue (is_ascii_alphanumeric x)

ends_name : (t front rest : List ℕ) (a c : ℕ) → t ≡ front ++ (c ∷ []) → t ≡ a ∷ rest → list_all is_name_character t ≡ true
    → is_ascii_alphanumeric a ≡ true → is_ascii_alphanumeric c ≡ true → IsName t
ends_name t front rest a c joined begins all first_is last_is =
    let first : IsSomeAnd (slice_get t 0) (λ x. IsTrue (is_ascii_alphanumeric x)) = some_and alphanumeric (slice_get t 0) a (ap (λ (x : List ℕ). slice_get x 0) begins) (is_true first_is) in
    let last_ : slice_get t (length t - 1) ≡ Some c = ap (λ (x : List ℕ). slice_get x (length x - 1)) joined ∙ last_get front c in
    identifiers.identifier_is_name t (record {
      characters = is_true all;
      first = first;
      last = some_and alphanumeric (slice_get t (length t - 1)) c last_ (is_true last_is);
    })
  where
    is_true : {b : Bool} → b ≡ true → IsTrue b
    is_true e = e

-- a run that begins like a name and is invalid ends with a separator
pub record EndsSeparator (run : List ℕ) : Type 0 where
  pub front : List ℕ
  pub c : ℕ
  pub joined : run ≡ front ++ (c ∷ [])
  pub characters : chars run ≡ front ++ (c ∷ [])
  pub separator : is_separator c ≡ true
  pub ascii : c < 128

last_holds : (t : List ℕ) (d : ℕ) → list_all is_name_character (t ++ (d ∷ [])) ≡ true → is_name_character d ≡ true
last_holds t d h1 = grind (arith, and_parts, list_all-append)

pub ends_separator : (run rest : List ℕ) (a : ℕ) → IsUtf8 run → chars run ≡ a ∷ rest
    → list_all is_name_character (chars run) ≡ true → is_ascii_alphanumeric a ≡ true → ¬ IsName run → EndsSeparator run
ends_separator run rest a utf8 begins all first_is unnamed =
    let here : run ≡ a ∷ rest = run_bytes run utf8 all ∙ begins in
    let end = last_of a rest in
    let joined : run ≡ end.0 ++ (end.1 ∷ []) = here ∙ end.2 in
    let all_bytes : list_all is_name_character run ≡ true = ap (list_all is_name_character) (run_bytes run utf8 all) ∙ all in
    let holds_ = last_holds end.0 end.1 (ap (list_all is_name_character) (sym joined) ∙ all_bytes) in
    record {
      front = end.0;
      c = end.1;
      joined = joined;
      characters = sym (run_bytes run utf8 all) ∙ joined;
      separator = go end.1 (is_ascii_alphanumeric end.1) refl (λ e. unnamed (ends_name run end.0 rest a end.1 joined here all_bytes first_is e)) holds_;
      ascii = name_byte end.1 holds_;
    }
  where
    go : (c : ℕ) (b : Bool) → is_ascii_alphanumeric c ≡ b → (is_ascii_alphanumeric c ≡ true → ⊥) → is_name_character c ≡ true → is_separator c ≡ true
    go c true e none h = absurd (none e)
    go c false e none h = sym (ap (λ (b : Bool). b || is_separator c) e) ∙ h
