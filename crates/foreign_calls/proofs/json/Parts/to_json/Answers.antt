use Rattle.std.proofs.lemmas.Result.{IfOk-weaker}
use Rattle.foreign_calls.proofs.JsonLaws.{parts_written}
use Rattle.foreign_calls.proofs.json.Parts.to_json.Goals as goal

pub returns : goal.returns
returns c = IfOk-weaker c.to_string.result _ _ (λ s h. parts_written _ _ _ _ _ c.in_ok-value.ensures h) c.to_string.ensures.text
