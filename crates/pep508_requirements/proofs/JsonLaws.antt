-- Why no requirement is read of a JSON string.
use Rattle.std.proofs.Common.{◌≡◌, ℕ, Bool, List, Result, Ok, Err, inr, subst}
use Rattle.std.specs.Prelude.{IfErr}
use Rattle.refusal.specs.declared.Refusal.{Refusal}
use Rattle.refusal.specs.declared.Refusal.TheVariants.{OutOfMemory, SegmentAtEnd, Fault}
use Rattle.pep508_errors.specs.declared.error.Pep508Error.{Pep508Error}
use Rattle.pep508_markers.specs.Json.{IsStringOf}
use Rattle.pep508_requirements.specs.Refused.{IsRefusal, IsJsonRefusal}

module _ {T E : Type 0} (names : List ℕ → T → Type 0) (tells_size : E → Bool) (may_overflow : List ℕ → Type 0) (value : List ℕ → List ℕ) (json text : List ℕ) (is : IsStringOf json text) where
  -- the refusal of a string's text is one of the JSON
  refused_string : (refusal : Refusal (Pep508Error T E)) → IsRefusal names tells_size may_overflow value text refusal → IsJsonRefusal names tells_size may_overflow value json refusal
  refused_string OutOfMemory r = tt
  refused_string SegmentAtEnd r = (text, is, r)
  refused_string (Fault e) r = inr (text, is, r)

  pub refused_json : {A : Type 0} (same : List ℕ) (result : Result A (Refusal (Pep508Error T E))) → same ≡ text → IfErr result (IsRefusal names tells_size may_overflow value same) → IfErr result (IsJsonRefusal names tells_size may_overflow value json)
  refused_json same (Ok a) e h = tt
  refused_json same (Err refusal) e h = refused_string refusal (subst (λ (x : List ℕ). IsRefusal names tells_size may_overflow value x refusal) e h)
