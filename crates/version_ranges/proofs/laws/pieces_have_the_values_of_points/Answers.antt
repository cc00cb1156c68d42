use Rattle.std.proofs.Common.{◌≡◌, true, arith}
use Rattle.version_ranges.proofs.PartLaws.{are_pieces}
use Rattle.version_ranges.proofs.EachPiece.{at_each_point, at_each_piece, point_of_part}
use Rattle.version_ranges.proofs.laws.pieces_have_the_values_of_points.Goals as goal

pub returns-clause-points : goal.returns-clause-points
returns-clause-points g c =
    let f = c.args.cuts.now in
    λ t. at_each_point g.T.Ord.cmp f (are_pieces g.T.Ord.cmp g.met.T.Ord.total f f.ascending (omega (arith, f.rest.ok.0))) (λ v. t v ≡ true)

pub returns-clause-pieces : goal.returns-clause-pieces
returns-clause-pieces g c =
    let f = c.args.cuts.now in
    λ t. at_each_piece g.T.Ord.cmp f (are_pieces g.T.Ord.cmp g.met.T.Ord.total f f.ascending (omega (arith, f.rest.ok.0))) (λ v. t v ≡ true)

pub returns-clause-inhabited : goal.returns-clause-inhabited
returns-clause-inhabited g c =
    let f = c.args.cuts.now in
    point_of_part g.T.Ord.cmp f (are_pieces g.T.Ord.cmp g.met.T.Ord.total f f.ascending (omega (arith, f.rest.ok.0)))
