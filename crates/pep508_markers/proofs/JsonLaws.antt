-- Why no marker is read of a JSON string.
use Rattle.std.proofs.Common.{◌≡◌, ℕ, List, Result, Ok, Err, inr, subst}
use Rattle.std.specs.Prelude.{IfErr}
use Rattle.refusal.specs.declared.Refusal.{Refusal}
use Rattle.refusal.specs.declared.Refusal.TheVariants.{OutOfMemory, SegmentAtEnd, Fault}
use Rattle.pep508_errors.specs.declared.error.Pep508Error.{Pep508Error}
use Rattle.pep508_markers.specs.Json.{IsJsonRefusal, IsStringOf}
use Rattle.pep508_markers.specs.Text.{IsRefusal}

module _ {T E : Type 0} (json text : List ℕ) (is : IsStringOf json text) where
  -- the refusal of a string's text is one of the JSON
  refused_string : (refusal : Refusal (Pep508Error T E)) → IsRefusal text refusal → IsJsonRefusal json refusal
  refused_string OutOfMemory r = tt
  refused_string SegmentAtEnd r = (text, is, r)
  refused_string (Fault e) r = inr (text, is, r.0, r.1)

  pub refused_json : {A : Type 0} (same : List ℕ) (result : Result A (Refusal (Pep508Error T E))) → same ≡ text → IfErr result (IsRefusal same) → IfErr result (IsJsonRefusal json)
  refused_json same (Ok a) e h = tt
  refused_json same (Err refusal) e h = refused_string refusal (subst (λ (x : List ℕ). IsRefusal x refusal) e h)
