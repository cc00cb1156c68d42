-- What a read uses up, what a write has done, and what a failed one may have.
use Rattle.std.specs.Prelude.{◌≡◌, ◌<◌, ◌-◌, ◌^◌, ℕ, List, ◌++◌, OnOk, Option, Result}
use Rattle.std.specs.Io.KnownBytes.{Appends}

-- a read takes one of the reads that were left, and succeeds only if one was, of less than 2 ^ 64
pub record TakesRead {A E : Type 0} (old new : ℕ) (result : Result A E) : Type 0 where
  pub fewer : new ≡ old - 1
  pub allowed : OnOk result (0 < old)
  pub bounded : OnOk result (old < 2 ^ 64)

-- known bytes grow by a beginning of these bytes
pub record AppendsBeginning (old new : Option (List ℕ)) (bytes : List ℕ) : Type 0 where
  pub front : List ℕ
  pub back : List ℕ
  pub parts : bytes ≡ front ++ back
  pub written : Appends old new front

module _ {S : Type 0} (contents : S → Option (List ℕ)) where
  -- the sink took all these bytes
  abbrev pub TakesAll : S → S → List ℕ → Type 0
  TakesAll old new bytes = Appends (contents old) (contents new) bytes

  -- the sink took a beginning of these bytes
  abbrev pub TakesFront : S → S → List ℕ → Type 0
  TakesFront old new bytes = AppendsBeginning (contents old) (contents new) bytes
