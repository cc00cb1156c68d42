use Rattle.std.proofs.Common.{◌≡◌, refl}
use Rattle.std.specs.Ordering.{nat_cmp}
use Rattle.std.specs.Cmp.Lexicographic.{slice_cmp}
use Rattle.std.proofs.lemmas.Cmp.{nat_list_cmp_total}
use Rattle.version_ranges.specs.Point.{Point}
use Rattle.version_ranges.specs.Cuts.{value_of, piece_of}
use Rattle.version_ranges.proofs.Elsewhere.{value_by_name, at_names}
use Rattle.version_ranges.proofs.laws.names_have_the_values_of_points.Goals as goal

pub returns-clause-named : goal.returns-clause-named
returns-clause-named g c =
    let f = c.args.left.now in
    let h = c.args.right.now in
    λ name e p. (
      value_by_name name g.T.Ord.cmp (slice_cmp nat_cmp) g.met.T.Ord.total nat_list_cmp_total e f p,
      value_by_name name g.T.Ord.cmp (slice_cmp nat_cmp) g.met.T.Ord.total nat_list_cmp_total e h p,
    )

pub returns-clause-found : goal.returns-clause-found
returns-clause-found g c =
    let f = c.args.left.now in
    let h = c.args.right.now in
    λ name e q. at_names name g.T.Ord.cmp (slice_cmp nat_cmp) g.met.T.Ord.total nat_list_cmp_total e f h h
    (λ v i w j u k. (p : Point _) × (v ≡ value_of g.T.Ord.cmp f p) × (i ≡ piece_of g.T.Ord.cmp f p) × (w ≡ value_of g.T.Ord.cmp h p) × (j ≡ piece_of g.T.Ord.cmp h p))
    (λ p. (p, refl, refl, refl, refl)) q
