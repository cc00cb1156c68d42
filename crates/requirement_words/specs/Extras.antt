-- The extras of a requirement (PEP 508, "Extras"). Each relation goes from the text before a part
-- to the rest after it; texts are lists of characters, and names are bytes in their normal form.
use Rattle.std.specs.Prelude.{◌≡◌, ℕ, Bool, false, List, [], ◌∷◌, ◌==◌, encode_utf8_all}
use Rattle.pep508_text.specs.Run.{after_space, run_of, after_run}
use Rattle.pep508_names.specs.Name.{NormalizesTo}
use Rattle.pep508_text.specs.declared.classes.Class.TheVariants.{NamePart}

-- the longest run of letters, digits, `-`, `_` and `.` is a name
pub record IsNameAt (input output n : List ℕ) : Type 0 where
  pub name : NormalizesTo (encode_utf8_all (run_of NamePart input)) n
  pub rest : after_run NamePart input ≡ output

-- the text begins with no name
abbrev pub HasNoName : List ℕ → Type 0
HasNoName input = (output n : List ℕ) → ¬ IsNameAt input output n

-- Names separated by commas, up to the bracket after the last, and any white space around each. 44
-- is `,` and 93 is `]`.
pub data Names : List ℕ → List ℕ → List (List ℕ) → Type 0 where
  last : {input a output n : List ℕ} → IsNameAt (after_space input) a n
      → after_space a ≡ 93 ∷ output → Names input output (n ∷ [])
  more : {input a b output n : List ℕ} {ns : List (List ℕ)} → IsNameAt (after_space input) a n
      → after_space a ≡ 44 ∷ b → Names b output ns → Names input output (n ∷ ns)

abbrev pub begins_bracket : List ℕ → Bool
begins_bracket [] = false
begins_bracket (c ∷ cs) = c == 91

-- any number of extras in brackets (91 is `[`), or no bracket at all
pub data IsExtras : List ℕ → List ℕ → List (List ℕ) → Type 0 where
  left_out : {input : List ℕ} → begins_bracket input ≡ false → IsExtras input input []
  none : {input output : List ℕ} → after_space input ≡ 93 ∷ output
      → IsExtras (91 ∷ input) output []
  some : {input output : List ℕ} {ns : List (List ℕ)} → Names input output ns
      → IsExtras (91 ∷ input) output ns

-- the text begins with no extras
abbrev pub HasNoExtras : List ℕ → Type 0
HasNoExtras input = (output : List ℕ) (names : List (List ℕ)) → ¬ IsExtras input output names

-- a text is parsed as extras in one way: their names, and where they end
abbrev pub ExtrasAreUnique : Type 0
ExtrasAreUnique = (text rest left : List ℕ) (names others : List (List ℕ))
    → IsExtras text rest names → IsExtras text left others → (rest ≡ left) × (names ≡ others)
