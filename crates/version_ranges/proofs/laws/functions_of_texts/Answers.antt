use Rattle.std.proofs.Common.{refl, sym, ap, ◌∙◌}
use Rattle.std.specs.Prelude.{string_bytes}
use Rattle.std.specs.Ordering.{nat_cmp}
use Rattle.std.specs.Cmp.Lexicographic.{slice_cmp}
use Rattle.version_ranges.specs.Point.{point_map}
use Rattle.version_ranges.specs.Cuts.{value_by}
use Rattle.version_ranges.proofs.laws.functions_of_texts.Goals as goal

pub returns-clause-equal : goal.returns-clause-equal
returns-clause-equal g c =
    let f = c.args.left.now in
    let h = c.args.right.now in
    λ e. c.same_values_make_same_pieces.ensures.equal (λ p.
    let n = c.names_have_the_values_of_points.ensures.named string_bytes (λ x y. refl) p in
    sym (ap (λ v. g.V.PartialEq.eq v (value_by string_bytes (slice_cmp nat_cmp) h (point_map string_bytes p))) n.0 ∙ ap (g.V.PartialEq.eq _) n.1) ∙ e (point_map string_bytes p))

pub returns-clause-pieces : goal.returns-clause-pieces
returns-clause-pieces g c = λ e. c.same_values_make_same_pieces.ensures.pieces (returns-clause-equal g c e)

pub returns-clause-value : goal.returns-clause-value
returns-clause-value g c = λ q.
    let n = c.names_have_the_values_of_points.ensures.found string_bytes (λ x y. refl) q in
    let k = c.point_lies_in_one_piece.ensures.found n.0 in
    (k.0, k.1, k.2, n.1 ∙ c.point_lies_in_one_piece.ensures.value n.0 k.0 k.1 k.2 k.3)

pub returns-clause-each : goal.returns-clause-each
returns-clause-each g c = λ t h q.
    let n = c.names_have_the_values_of_points.ensures.found string_bytes (λ x y. refl) q in
    ap t n.1 ∙ c.pieces_have_the_values_of_points.ensures.points t h n.0
