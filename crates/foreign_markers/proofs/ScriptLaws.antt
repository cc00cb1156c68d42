-- What answers a script that is read to its end.
use Rattle.std.proofs.Common.{◌≡◌, ◌∙◌, ℕ, List, [], ◌++◌, sym, ap, subst}
use Rattle.std.specs.Prelude.{Option, Some, None}
use Rattle.std.specs.Io.KnownBytes.{IsAtEnd}
use Rattle.std.proofs.lemmas.List.{append-nil}
use Rattle.line_server.specs.Serving.{Exchanges, AnswersEachLine}
use Rattle.marker_lines.specs.LineStep.{State, start, LineStep}
use Rattle.foreign_markers.specs.Script.{IsAnswered}

pub answered : (script replies : List ℕ) (left : Option (List ℕ)) → IsAtEnd left
    → ((end : State) × Exchanges (Some script) left (Some []) (Some replies) (AnswersEachLine LineStep start end)) → IsAnswered script replies
answered script replies (Some rest) nothing x =
    let end : State = x.0 in let input : List ℕ = x.1.0 in let output : List ℕ = x.1.1 in
    let whole : script ≡ input = x.1.2 ∙ ap (λ (r : List ℕ). input ++ r) nothing ∙ append-nil input in (
      end,
      subst (λ (i : List ℕ). AnswersEachLine LineStep start end i replies) (sym whole)
          (subst (λ (o : List ℕ). AnswersEachLine LineStep start end input o) (sym x.1.3) x.1.4),
    )
answered script replies None nothing x = absurd x.1.2
