use Rattle.std.proofs.Common.{[], map}
use Rattle.std.proofs.lemmas.List.Elements.{All-map, All-nil}
use Rattle.marker_parts.specs.Expression.{test_of}
use Rattle.marker_graph.specs.Contents.{truth}
use Rattle.marker_answers.specs.Evaluation.{IsEvaluation, IsSettled}
use Rattle.marker_answers.specs.Known.{IsFact}
use Rattle.marker_answers.proofs.KeptLaws.{if_ok}
use Rattle.marker_answers.proofs.evaluating.evaluate.Goals as goal

pub returns-in_default-clause-answer : goal.returns-in_default-clause-answer
returns-in_default-clause-answer c = ([], All-nil (IsFact c.args.known.now c.args.extras.now), tt)

pub returns-clause-answer : goal.returns-clause-answer
returns-clause-answer c =
    if_ok (IsSettled (truth c.settle.new.interner c.args.marker) (map test_of c.in_ok-facts.facts.items)) (IsEvaluation (truth c.settle.new.interner c.args.marker) c.args.known.now c.args.extras.now)
    c.settle.result c.settle.ensures.answer
    (λ e s. (map test_of c.in_ok-facts.facts.items, All-map (IsFact c.args.known.now c.args.extras.now) test_of c.in_ok-facts.facts.items c.in_ok-facts.ensures, s))
