use Rattle.std.proofs.Common.{◌≡◌, Bool, true, not, map, refl, ap, ◌∙◌}
use Rattle.marker_environment.specs.Valuation.{Valuation}
use Rattle.marker_parts.specs.Expression.{test_of}
use Rattle.marker_graph.specs.Contents.{truth}
use Rattle.marker_graph.proofs.Firsts.{true_is}
use Rattle.marker_answers.specs.Evaluation.{all_hold, DependAlone, IsSettled}
use Rattle.marker_answers.proofs.KeptLaws.{if_ok, kept_truth}
use Rattle.marker_answers.proofs.SettleLaws.{never_both, settled}
use Rattle.marker_answers.proofs.evaluating.settle.Goals as goal

pub returns-then-is_false-clause-answer : goal.returns-then-is_false-clause-answer
returns-then-is_false-clause-answer c = λ v h.
    never_both (truth c.and.new.interner c.args.marker v) (truth c.and.new.interner c.in_ok-given.given v) (truth c.and.new.interner c.and.new.self v) (all_hold (map test_of c.args.facts.items) v)
    (c.in_ok-and.ensures.means v)
    (kept_truth c.join_facts.new.interner c.and.new.interner c.in_ok-given.given c.and.ensures.kept c.in_ok-given.ensures.held v ∙ c.in_ok-given.ensures.means v)
    (ap (λ t. truth c.and.new.interner t v) (c.if-is_false.ensures.0 refl) ∙ ap not (true_is c.and.new.interner.nodes v)) h

pub returns-clause-answer : goal.returns-clause-answer
returns-clause-answer c =
    if_ok (DependAlone (truth c.and.new.interner c.and.new.self) (truth c.and.new.interner c.in_ok-given.given)) (IsSettled (truth c.and.new.interner c.args.marker) (map test_of c.args.facts.items))
    c.missing_keys.result c.missing_keys.ensures
    (settled (map test_of c.args.facts.items) (truth c.and.new.interner c.args.marker) (truth c.and.new.interner c.in_ok-given.given) (truth c.and.new.interner c.and.new.self)
    c.in_ok-and.ensures.means
    (λ v. kept_truth c.join_facts.new.interner c.and.new.interner c.in_ok-given.given c.and.ensures.kept c.in_ok-given.ensures.held v ∙ c.in_ok-given.ensures.means v))
