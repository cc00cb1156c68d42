use Rattle.std.proofs.Common.{rules}
use Rattle.marker_graph.proofs.KeptLaws.{kept_both}
use Rattle.marker_witnesses.specs.Sides.{no_more}
use Rattle.marker_witnesses.proofs.SideLaws.{kept_held, shows_more}
use Rattle.marker_witnesses.proofs.sides.witnesses.Goals as goal

pub shown_of-requires : goal.shown_of-requires
shown_of-requires c = record {
  first = kept_held c.args.interner.now c.loop-side.interner c.args.first c.loop-side.invariant.kept c.requires.first;
  second = kept_held c.args.interner.now c.loop-side.interner c.args.second c.loop-side.invariant.kept c.requires.second;
}

pub loop-side-init : goal.loop-side-init
loop-side-init c = record { kept = search rules; shown = rw c.new-shown.ensures.items no_more }

pub loop-side-preserved : goal.loop-side-preserved
loop-side-preserved c = record {
  kept = kept_both c.args.interner.now c.loop-side.interner c.shown_of.new.interner c.loop-side.invariant.kept c.shown_of.ensures.kept;
  shown = shows_more c.args.interner.now c.loop-side.interner c.args.first c.args.second c.sides_of-side-items.result.now c.loop-side.side-index _ c.loop-side.shown.items c.add_shown.new.shown.items c.in_ok-found.found c.loop-side.invariant.kept c.requires.first c.requires.second
      c.loop-side-test.true c.loop-side.invariant.shown c.in_ok-found.ensures.told c.in_ok-add_shown.ensures;
}
