use Rattle.std.proofs.Common.{arith, sym, ◌∙◌}
use Rattle.version_ranges.proofs.PartLaws.{are_pieces}
use Rattle.version_ranges.proofs.EachPiece.{value_of_part}
use Rattle.version_ranges.proofs.laws.point_lies_in_one_piece.Goals as goal

pub returns-clause-found : goal.returns-clause-found
returns-clause-found g c =
    let f = c.args.cuts.now in
    let h = are_pieces g.T.Ord.cmp g.met.T.Ord.total f f.ascending (omega (arith, f.rest.ok.0)) in
    λ p. let q = h.covers p in (_, q.0, q.1, q.2)

pub returns-clause-alone : goal.returns-clause-alone
returns-clause-alone g c =
    let f = c.args.cuts.now in
    let h = are_pieces g.T.Ord.cmp g.met.T.Ord.total f f.ascending (omega (arith, f.rest.ok.0)) in
    λ p i j x y e k m n. sym (h.apart i x p e m) ∙ h.apart j y p k n

pub returns-clause-value : goal.returns-clause-value
returns-clause-value g c =
    let f = c.args.cuts.now in
    value_of_part g.T.Ord.cmp f (are_pieces g.T.Ord.cmp g.met.T.Ord.total f f.ascending (omega (arith, f.rest.ok.0)))
