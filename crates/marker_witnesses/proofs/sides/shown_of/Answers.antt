use Rattle.std.proofs.Common.{subst}
use Rattle.marker_witnesses.specs.Witness.{IsWitnessOf}
use Rattle.marker_witnesses.proofs.SideLaws.{nothing_shown}
use Rattle.marker_witnesses.proofs.sides.shown_of.Goals as goal

pub returns-in-None-clause-told : goal.returns-in-None-clause-told
returns-in-None-clause-told c =
    nothing_shown c.args.interner.now c.marker.new.interner c.args.side c.args.first c.args.second c.in_ok-wanted.wanted
    (subst (IsWitnessOf c.marker.new.interner c.in_ok-wanted.wanted) c.in-None.is c.in_ok-witness_of.ensures) c.in_ok-wanted.ensures.means
