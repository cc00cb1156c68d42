use Rattle.std.proofs.Common.{arith, sym, ◌∙◌}
use Rattle.version_ranges.specs.Cut.{cut_cmp}
use Rattle.version_ranges.proofs.PointLaws.{value_at_place, piece_at_place, place}
use Rattle.version_ranges.proofs.PieceLaws.{value_first, value_later}
use Rattle.version_ranges.proofs.cuts.Cuts.piece_value.Goals as goal

pub returns-then-index-eq0 : goal.returns-then-index-eq0
returns-then-index-eq0 g c =
    let cmp = g.T.Ord.cmp in
    let f = c.args.self.now in
    λ p e. value_at_place cmp f.first f.rest.items p ∙ value_first (cut_cmp cmp) f.first f.rest.items c.args.index (place p) (sym (piece_at_place cmp f.rest.items p) ∙ e) c.if-index-eq0.true

pub returns-else-index-eq0 : goal.returns-else-index-eq0
returns-else-index-eq0 g c =
    let cmp = g.T.Ord.cmp in
    let f = c.args.self.now in
    λ p e. value_at_place cmp f.first f.rest.items p
    ∙ value_later (cut_cmp cmp) f.first f.rest.items c.args.index (place p) (sym (piece_at_place cmp f.rest.items p) ∙ e) _ c.if-index-eq0.false (omega (arith, c.requires, f.rest.ok.0)) c.index.ensures
