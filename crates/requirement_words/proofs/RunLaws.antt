-- One step of a run: its first character is of the class, or it ends.
use Rattle.std.proofs.Common.{◌≡◌, ℕ, true, false, List, ◌∷◌, []}
use Rattle.pep508_text.specs.Class.{holds}
use Rattle.pep508_text.specs.Run.{run_of, after_run}
use Rattle.pep508_text.specs.declared.classes.Class.{Class}
use Rattle.pep508_text.proofs.RunLaws.{run_of-holds, run_of-fails, after_run-holds, after_run-fails}

pub run_holds : (p : Class) (c : ℕ) (cs : List ℕ) → holds p c ≡ true → (run_of p (c ∷ cs) ≡ c ∷ run_of p cs) × (after_run p (c ∷ cs) ≡ after_run p cs)
run_holds p c cs e = (run_of-holds p c cs e, after_run-holds p c cs e)

pub run_fails : (p : Class) (c : ℕ) (cs : List ℕ) → holds p c ≡ false → (run_of p (c ∷ cs) ≡ []) × (after_run p (c ∷ cs) ≡ c ∷ cs)
run_fails p c cs e = (run_of-fails p c cs e, after_run-fails p c cs e)
