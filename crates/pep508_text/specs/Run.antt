-- Runs of characters of one class at the front of a list of characters.
use Rattle.std.specs.Prelude.{◌≡◌, ℕ, true, List, [], ◌∷◌, if◌then◌else◌}
use Rattle.pep508_text.specs.Class.{holds}
use Rattle.pep508_text.specs.declared.classes.Class.{Class}
use Rattle.pep508_text.specs.declared.classes.Class.TheVariants.{Space}

-- the longest front whose characters are all of the class
abbrev pub run_of : Class → List ℕ → List ℕ
run_of class [] = []
run_of class (c ∷ cs) = if holds class c then c ∷ run_of class cs else []

-- what follows it
abbrev pub after_run : Class → List ℕ → List ℕ
after_run class [] = []
after_run class (c ∷ cs) = if holds class c then after_run class cs else c ∷ cs

-- what follows the white space at the front
abbrev pub after_space : List ℕ → List ℕ
after_space cs = after_run Space cs

-- the longest run of the class at the front of `input` is `run`, and `output` follows it
pub record Run (class : Class) (input run output : List ℕ) : Type 0 where
  pub run_is : run_of class input ≡ run
  pub rest_is : after_run class input ≡ output

-- any number of white-space characters between `input` and `output`, which may begin with more
pub data Spaces : List ℕ → List ℕ → Type 0 where
  none : {input : List ℕ} → Spaces input input
  more : {c : ℕ} {input output : List ℕ}
      → holds Space c ≡ true → Spaces input output → Spaces (c ∷ input) output
