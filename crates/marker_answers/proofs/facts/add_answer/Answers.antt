use Rattle.std.proofs.Common.{Option, ◌++◌, ◌∷◌, [], subst}
use Rattle.std.specs.Prelude.{IfSome}
use Rattle.std.proofs.lemmas.List.Elements.{All-push, All-same}
use Rattle.marker_parts.specs.declared.expression.MarkerExpression.{MarkerExpression}
use Rattle.marker_answers.specs.Known.{IsFactOf}
use Rattle.marker_answers.proofs.facts.add_answer.Goals as goal

pub returns-in_ok-push : goal.returns-in_ok-push
returns-in_ok-push c = λ a.
    let P : Option MarkerExpression → Type 0 = λ found. IfSome found (IsFactOf c.args.known.now c.args.extras.now) in
    All-same (IsFactOf c.args.known.now c.args.extras.now) c.push.new.self.items (c.args.facts.now.items ++ c.in-Some.fact ∷ []) c.in_ok-push.ensures.items
    (All-push (IsFactOf c.args.known.now c.args.extras.now) c.args.facts.now.items c.in-Some.fact a (subst P c.in-Some.is c.in_ok-fact.ensures))
