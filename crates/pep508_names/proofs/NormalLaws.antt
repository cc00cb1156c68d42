-- Texts that are their own normal forms, character by character.
use Rattle.std.proofs.Common.{◌≡◌, ◌==◌, ◌&&◌, ◌||◌, ℕ, Bool, true, false, not, List, [], ◌∷◌, if◌then◌else◌, refl, sym, ap, subst, ◌∙◌, arith}
use Rattle.std.proofs.lemmas.Bool.{and_parts, and_from}
use Rattle.std.proofs.lemmas.Bool.Decides.{nat_tests}
use Rattle.std.specs.Char.{is_ascii_alphanumeric, is_ascii_digit, is_ascii_lowercase, to_ascii_lowercase}
use Rattle.pep508_text.specs.Class.{is_name_character, is_separator}
use Rattle.pep508_names.specs.Name.{NormalizesTo}
use Rattle.pep508_names.proofs.IdentifierLaws.{closes, name_from_letter}
use Rattle.pep508_names.proofs.NameLaws.{squeeze, squeeze-other}

-- a character of a word in a normal form
abbrev pub is_small : ℕ → Bool
is_small c = is_ascii_lowercase c || is_ascii_digit c

-- the text ends a normal form; `awaits` says that a word must begin with it
abbrev pub ends_normal : Bool → List ℕ → Bool
ends_normal awaits [] = not awaits
ends_normal awaits (c ∷ cs) =
    if is_small c then ends_normal false cs else (if awaits then false else (c == 45 && ends_normal true cs))

-- what a character of such a text is
data Begins (awaits : Bool) (c : ℕ) (cs : List ℕ) : Type 0 where
  small : is_small c ≡ true → ends_normal false cs ≡ true → Begins awaits c cs
  dash : awaits ≡ false → c ≡ 45 → ends_normal true cs ≡ true → Begins awaits c cs

equal_from : (c : ℕ) → (c == 45) ≡ true → c ≡ 45
equal_from c h = grind (arith, nat_tests)

begins : (awaits : Bool) (c : ℕ) (cs : List ℕ) → ends_normal awaits (c ∷ cs) ≡ true → Begins awaits c cs
begins awaits c cs h1 = grind (arith, small, and_parts, dash, equal_from)

small-alphanumeric : (c : ℕ) → is_small c ≡ true → is_ascii_alphanumeric c ≡ true
small-alphanumeric c h = grind (arith, nat_tests)

small-character : (c : ℕ) → is_small c ≡ true → is_name_character c ≡ true
small-character c h = grind (arith, nat_tests)

small-separator : (c : ℕ) → is_small c ≡ true → is_separator c ≡ false
small-separator c h = grind (arith, nat_tests)

small-lowercase : (c : ℕ) → is_small c ≡ true → to_ascii_lowercase c ≡ c
small-lowercase c h = grind (arith, nat_tests)

-- normalizing changes nothing
squeeze-normal : (awaits : Bool) (t : List ℕ) → ends_normal awaits t ≡ true → squeeze awaits t ≡ t
squeeze-normal awaits [] h = refl
squeeze-normal awaits (c ∷ cs) h = elim (begins awaits c cs h) [
  | small e more ↦ squeeze-other awaits c cs (small-separator c e) ∙ ap (λ x. x ∷ squeeze false cs) (small-lowercase c e) ∙ ap (λ l. c ∷ l) (squeeze-normal false cs more)
  | dash f e more ↦ ap (λ a. squeeze a (c ∷ cs)) f ∙ ap (λ x. squeeze false (x ∷ cs)) e ∙ ap (λ l. 45 ∷ l) (squeeze-normal true cs more) ∙ ap (λ x. x ∷ cs) (sym e)
]

-- such a text closes a name
closes_normal : (awaits : Bool) (t : List ℕ) → ends_normal awaits t ≡ true → closes (not awaits) t ≡ true
closes_normal awaits [] h = h
closes_normal awaits (c ∷ cs) h = elim (begins awaits c cs h) [
  | small e more ↦ and_from (is_name_character c) (closes (is_ascii_alphanumeric c) cs) (small-character c e) (ap (λ ok. closes ok cs) (small-alphanumeric c e) ∙ closes_normal false cs more)
  | dash _ e more ↦ ap (λ x. is_name_character x && closes (is_ascii_alphanumeric x) cs) e ∙ closes_normal true cs more
]

-- and with a word at its front it is a name in normal form
pub normal : (t : List ℕ) → ends_normal true t ≡ true → NormalizesTo t t
normal [] h = absurd cc
normal (c ∷ cs) h = elim (begins true c cs h) [
  | small e more ↦ subst (NormalizesTo (c ∷ cs)) (ap (λ x. x ∷ squeeze false cs) (small-lowercase c e) ∙ ap (λ l. c ∷ l) (squeeze-normal false cs more)) (name_from_letter c cs (small-alphanumeric c e) (closes_normal false cs more))
  | dash f _ _ ↦ absurd cc
]
