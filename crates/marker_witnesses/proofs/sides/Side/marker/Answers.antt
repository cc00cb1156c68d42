use Rattle.marker_witnesses.proofs.SideLaws.{without}
use Rattle.marker_witnesses.proofs.sides.Side.marker.Goals as goal

pub returns-in-OnlyFirst-clause-means : goal.returns-in-OnlyFirst-clause-means
returns-in-OnlyFirst-clause-means c =
    rw c.in-OnlyFirst.is
    (without c.conjunction-in-OnlyFirst.result c.args.interner.now c.conjunction-in-OnlyFirst.new.interner c.args.first c.args.second c.negate.result (c.negate.ensures.means c.args.interner.now) c.conjunction-in-OnlyFirst.ensures.means)

pub returns-in-OnlySecond-clause-means : goal.returns-in-OnlySecond-clause-means
returns-in-OnlySecond-clause-means c =
    rw c.in-OnlySecond.is
    (without c.conjunction-in-OnlySecond.result c.args.interner.now c.conjunction-in-OnlySecond.new.interner c.args.second c.args.first c.negate-in-OnlySecond.result (c.negate-in-OnlySecond.ensures.means c.args.interner.now)
    c.conjunction-in-OnlySecond.ensures.means)
