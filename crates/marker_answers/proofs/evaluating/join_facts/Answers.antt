use Rattle.std.proofs.Common.{◌≡◌, ◌&&◌, map, sym, ap, ◌∙◌, arith}
use Rattle.std.specs.Vec.Iter.{into_iter_items}
use Rattle.marker_parts.specs.Expression.{holds, test_of}
use Rattle.marker_graph.specs.Contents.{truth}
use Rattle.marker_graph.proofs.Firsts.{true_is}
use Rattle.marker_graph.proofs.KeptLaws.{kept_itself, kept_both}
use Rattle.marker_answers.specs.Evaluation.{all_hold}
use Rattle.marker_answers.proofs.KeptLaws.{kept_truth}
use Rattle.marker_answers.proofs.SettleLaws.{joined_one}
use Rattle.marker_answers.proofs.evaluating.join_facts.Goals as goal

pub loop-fact-init : goal.loop-fact-init
loop-fact-init c = record {
  kept = kept_itself c.args.interner.now;
  held = omega arith;
  means = λ v.
      ap (λ x. x && all_hold (map test_of (into_iter_items c.into_iter-left.result)) v) (true_is c.args.interner.now.nodes v)
      ∙ ap (λ xs. all_hold (map test_of xs) v) c.into_iter-left.ensures.rest;
}

pub loop-fact-preserved : goal.loop-fact-preserved
loop-fact-preserved c =
    let kept = kept_both c.loop-fact.interner c.expression.new.interner c.and.new.interner c.expression.ensures.kept c.and.ensures.kept in
    record {
      kept = kept_both c.args.interner.now c.loop-fact.interner c.and.new.interner c.loop-fact.invariant.kept kept;
      held = c.and.ensures.stays.held;
      means = λ v.
          joined_one (truth c.loop-fact.interner c.loop-fact.given v) (holds (test_of c.in-Some.fact) v) (truth c.and.new.interner c.and.new.self v)
          (all_hold (map test_of (into_iter_items c.next.new.self)) v) (all_hold (map test_of c.args.facts.items) v)
          (c.in_ok-and.ensures.means v
          ∙ ap (λ x. x && truth c.and.new.interner c.in_ok-tree.tree v) (kept_truth c.loop-fact.interner c.and.new.interner c.loop-fact.given kept c.loop-fact.invariant.held v)
          ∙ ap (λ x. truth c.loop-fact.interner c.loop-fact.given v && x)
          (kept_truth c.expression.new.interner c.and.new.interner c.in_ok-tree.tree c.and.ensures.kept c.in_ok-tree.ensures.held v ∙ c.in_ok-tree.ensures.means v))
          (ap (λ xs. truth c.loop-fact.interner c.loop-fact.given v && all_hold (map test_of xs) v) (sym c.in-Some.ensures.items) ∙ c.loop-fact.invariant.means v);
    }
