-- Why a type of URLs rejects a text or a target.
use Rattle.std.specs.Prelude.{◌≡◌, ℕ, Bool, true, false, List, Option, option_copied}
use Rattle.std.specs.Borrow.{Bor}
use Rattle.pep508_errors.specs.declared.surroundings.Surroundings.{Surroundings}
use Rattle.pep508_urls.specs.Meaning.{meaning_of}
use Rattle.pep508_urls.specs.Unnamed.{EachMayOverflow, NamesNone}
use Rattle.pep508_urls.specs.declared.meaning.Target.{Target}

-- over which faults are only of size
module _ {E : Type 0} (tells_size : E → Bool) where
  -- a fault of size: the texts that denote the target may be too large
  abbrev pub IsSizeOfTarget : (List ℕ → Surroundings → Type 0) → Option (Bor (List ℕ)) → Target
      → E → Type 0
  IsSizeOfTarget may_overflow folder target fault = tells_size fault ≡ true
      → EachMayOverflow may_overflow (option_copied folder) (meaning_of target)

  -- a fault of size: the text may be too large
  abbrev pub IsSizeOfText : (List ℕ → Surroundings → Type 0) → List ℕ → Surroundings → E
      → Type 0
  IsSizeOfText may_overflow text surroundings fault =
      tells_size fault ≡ true → may_overflow text surroundings

module _ {U E : Type 0} (tells_size : E → Bool) (names : List ℕ → Surroundings → U → Type 0) where
  -- another fault: no text that denotes the target has a value
  abbrev pub IsFaultOfTarget : Option (Bor (List ℕ)) → Target → E → Type 0
  IsFaultOfTarget folder target fault = tells_size fault ≡ false
      → NamesNone names (option_copied folder) (meaning_of target)

  -- another fault: the text has no value
  abbrev pub IsFaultOfText : List ℕ → Surroundings → E → Type 0
  IsFaultOfText text surroundings fault =
      tells_size fault ≡ false → (url : U) → ¬ names text surroundings url
