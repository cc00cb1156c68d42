use Rattle.std.proofs.Common.{◌++◌, ◌∷◌, [], sym}
use Rattle.std.specs.Prelude.{string_bytes}
use Rattle.std.proofs.lemmas.List.Elements.{All-push, All-same}
use Rattle.marker_parts.specs.Expression.{test_of}
use Rattle.marker_answers.specs.Known.{IsFactOf}
use Rattle.marker_answers.proofs.FactLaws.{fact_as, text_holds}
use Rattle.marker_answers.proofs.facts.add_text.Goals as goal

pub returns-in_ok-push : goal.returns-in_ok-push
returns-in_ok-push c = λ extras a.
    All-same (IsFactOf c.args.known.now extras) c.push.new.self.items (c.args.facts.now.items ++ c.in_ok-text_fact.field-0 ∷ []) c.in_ok-push.ensures.items
    (All-push (IsFactOf c.args.known.now extras) c.args.facts.now.items c.in_ok-text_fact.field-0 a
    (fact_as c.args.known.now extras (test_of c.in_ok-text_fact.field-0) _ c.in_ok-text_fact.ensures (text_holds c.args.known.now extras c.args.variable (string_bytes c.in-Some.value.now) (sym c.in-Some.ensures))))
