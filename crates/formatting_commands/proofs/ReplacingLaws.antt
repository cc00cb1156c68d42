-- A step that fails, by the result of the call.
use Rattle.std.proofs.Common.{ℕ, Bool, true, List}
use Rattle.std.specs.Prelude.{Result, Ok, Err, OnErr, is_ok}
use Rattle.formatting_commands.specs.Replacing.{Step, create, rename, remove, IsFilled, Stops, not_renamed, Leaves, removed}

-- what is true is true after an error
pub after_error : {A E P : Type 0} (result : Result A E) → P → OnErr result P
after_error (Ok x) p = tt
after_error (Err e) p = p

module _ {State : Type 0} (Tries : State → Step → Bool → State → Type 0) (path bytes : List ℕ) where
  -- a rename that fails
  pub stopped : {A E : Type 0} {created filled new : State} (result : Result A E) → IsFilled Tries path bytes created filled → Tries filled (rename path) (is_ok result) new
      → OnErr result (Stops Tries path bytes created new)
  stopped (Ok x) filled tried = tt
  stopped (Err e) filled tried = not_renamed filled tried

  -- the new file is removed after a failure
  pub left : {A E : Type 0} {old created failed new : State} {succeeds : Bool} (result : Result A E) → Tries old (create path) true created
      → OnErr result (Stops Tries path bytes created failed) → Tries failed remove succeeds new → OnErr result (Leaves Tries path bytes old new)
  left (Ok x) creates stops removes = tt
  left (Err e) creates stops removes = removed creates stops removes
