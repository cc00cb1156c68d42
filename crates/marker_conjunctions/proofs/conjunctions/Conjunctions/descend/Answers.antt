use Rattle.std.proofs.Common.{subst}
use Rattle.marker_conjunctions.specs.Contents.{contents}
use Rattle.marker_conjunctions.specs.Step.{IsStep, IsWanted}
use Rattle.marker_conjunctions.proofs.CountLaws.{descends_of}
use Rattle.marker_conjunctions.proofs.StepLaws.{pair_itself, nothing_waits, next_pair, more_wait}
use Rattle.marker_conjunctions.proofs.conjunctions.Conjunctions.descend.Goals as goal

pub loop-choice-init : goal.loop-choice-init
loop-choice-init c = record {
  pair = pair_itself c.args.nodes.now c.args.first.0 c.args.first.1 c.requires.held.left c.requires.held.right;
  unsettled = c.requires.unsettled;
  waits = nothing_waits c.args.nodes.now c.args.first.0 c.args.first.1 c.args.pending.now.items;
}

pub look-requires-clause-held : goal.look-requires-clause-held
look-requires-clause-held c = record { rules = c.requires.held.rules; left = c.loop-choice.invariant.pair.left_held; right = c.loop-choice.invariant.pair.right_held }

pub look-requires-clause-unsettled : goal.look-requires-clause-unsettled
look-requires-clause-unsettled c = c.loop-choice.invariant.unsettled

pub returns-in-Made-clause-waits : goal.returns-in-Made-clause-waits
returns-in-Made-clause-waits c =
    more_wait c.args.nodes.now (descends_of (contents c.args.nodes.now c.args.self.now) c.requires.held.rules) c.args.first.0 c.args.first.1 c.loop-choice.pair c.loop-choice.invariant.pair
    c.args.pending.now.items c.loop-choice.pending.items c.look.new.pending.items c.loop-choice.invariant.waits c.in_ok-choice.ensures.waits

pub loop-choice-preserved : goal.loop-choice-preserved
loop-choice-preserved c =
    let descends = descends_of (contents c.args.nodes.now c.args.self.now) c.requires.held.rules in
    let next : IsWanted c.args.nodes.now c.args.self.now.memo.entries c.loop-choice.pair.0 c.loop-choice.pair.1 (c.in-Open.left, c.in-Open.right) =
    subst (IsStep c.args.nodes.now c.args.self.now.memo.entries c.loop-choice.pair.0 c.loop-choice.pair.1) c.in-Open.is c.in_ok-choice.ensures.step in
    record {
      pair = next_pair c.args.nodes.now descends c.args.first.0 c.args.first.1 c.loop-choice.pair c.loop-choice.invariant.pair (c.in-Open.left, c.in-Open.right) next.pair;
      unsettled = next.unsettled;
      waits = more_wait c.args.nodes.now descends c.args.first.0 c.args.first.1 c.loop-choice.pair c.loop-choice.invariant.pair
          c.args.pending.now.items c.loop-choice.pending.items c.look.new.pending.items c.loop-choice.invariant.waits c.in_ok-choice.ensures.waits;
    }
