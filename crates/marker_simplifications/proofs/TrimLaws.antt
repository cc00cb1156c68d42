-- Bounds without zeros at the end of their versions.
use Rattle.std.proofs.Common.{◌≡◌, Bool, true, not, ◌&&◌, List, refl, ap, ◌∙◌, arith}
use Rattle.std.specs.Prelude.{Result, Ok, Err, IfOk}
use Rattle.std.specs.declared.alloc.AllocError.{AllocError}
use Rattle.std.specs.declared.cmp.Ordering.TheVariants.{Equal}
use Rattle.std.specs.Range.Bound.{bound_map}
use Rattle.std.specs.declared.ops.Bound.{Bound}
use Rattle.std.specs.declared.ops.Bound.TheVariants.{Included, Excluded, Unbounded}
use Rattle.std.proofs.lemmas.Cmp.{alike_right}
use Rattle.version_ranges.specs.Bounds.{passes_at}
use Rattle.version_ranges.specs.Point.{Point, at, above, is_from, is_until, is_in_bounds, point_cmp}
use Rattle.version_ranges.proofs.PartLaws.{point_total}
use Rattle.pep440_version.specs.Parts.{Parts}
use Rattle.pep440_version.specs.Order.{trimmed_parts, version_cmp}
use Rattle.pep440_version.specs.OrderLaws.{same-tied, version_total}
use Rattle.pep440_version.proofs.Trimmed.{trimmed-version}
use Rattle.pep440_rs.specs.Intervals.{is_trimmed}
use Rattle.pep440_rs.proofs.Trimmed.{trimmed-is}
use Rattle.marker_words.specs.declared.key.VersionVariable.TheVariants.{PythonFullVersion}
use Rattle.marker_environment.specs.Valuation.{Valuation}
use Rattle.marker_diagrams.specs.declared.node_id.NodeId.{NodeId}
use Rattle.marker_diagrams.specs.Diagram.{Keeps, truth}
use Rattle.marker_diagrams.proofs.NodeLaws.{truth_still}
use Rattle.marker_nodes.specs.Node.{Node, markers}
use Rattle.marker_nodes.specs.And.{IsAnd}
use Rattle.marker_simplifications.specs.Expression.{IsTruthOf}
use Rattle.marker_simplifications.specs.Python.{is_python_in, require}

trimmed_tied : (v : Parts) → version_cmp (trimmed_parts v) v ≡ Equal
trimmed_tied v = same-tied (trimmed_parts v) v (trimmed-version (trimmed_parts v) v refl)

at_trimmed : (v : Parts) (p : Point Parts) → point_cmp version_cmp p (at (trimmed_parts v)) ≡ point_cmp version_cmp p (at v)
at_trimmed v p = alike_right (point_total version_cmp version_total) (at (trimmed_parts v)) (at v) p (trimmed_tied v)

above_trimmed : (v : Parts) (p : Point Parts) → point_cmp version_cmp p (above (trimmed_parts v)) ≡ point_cmp version_cmp p (above v)
above_trimmed v p = alike_right (point_total version_cmp version_total) (above (trimmed_parts v)) (above v) p (trimmed_tied v)

from_trimmed : (bound : Bound Parts) (p : Point Parts) → is_from version_cmp (bound_map trimmed_parts bound) p ≡ is_from version_cmp bound p
from_trimmed bound p = grind (arith, not, at_trimmed, above_trimmed)

until_trimmed : (bound : Bound Parts) (p : Point Parts) → is_until version_cmp (bound_map trimmed_parts bound) p ≡ is_until version_cmp bound p
until_trimmed bound p = grind (arith, above_trimmed, at_trimmed)

-- a bound without zeros
pub bound_trimmed : (b : Bound Parts) → passes_at is_trimmed (bound_map trimmed_parts b) ≡ true
bound_trimmed (Included v) = trimmed-is v.release (trimmed_parts v) refl
bound_trimmed (Excluded v) = trimmed-is v.release (trimmed_parts v) refl
bound_trimmed Unbounded = refl

-- a range is the same set of points
pub in_trimmed : (lower upper : Bound Parts) (p : Point Parts) → is_in_bounds version_cmp (bound_map trimmed_parts lower) (bound_map trimmed_parts upper) p ≡ is_in_bounds version_cmp lower upper p
in_trimmed lower upper p = ap (λ b. b && is_until version_cmp (bound_map trimmed_parts upper) p) (from_trimmed lower p) ∙ ap (λ b. is_from version_cmp lower p && b) (until_trimmed upper p)

module _ (nodes : List Node) (lower upper from until : Bound Parts) (from_is : from ≡ bound_map trimmed_parts lower) (until_is : until ≡ bound_map trimmed_parts upper) (set : Point Parts → Bool)
    (set_is : (p : Point Parts) → set p ≡ is_in_bounds version_cmp from until p) where
  -- an id that is true in the set is true if the Python version is in the range
  pub range_asked : (r : Result NodeId AllocError) → IfOk r (IsTruthOf nodes (λ v. set (v.version PythonFullVersion))) → IfOk r (IsTruthOf nodes (is_python_in lower upper))
  range_asked (Ok t) h = record {
    held = h.held;
    means = λ v.
        let p = v.version PythonFullVersion in
        h.means v ∙ set_is p ∙ ap (λ b. is_in_bounds version_cmp b until p) from_is ∙ ap (λ b. is_in_bounds version_cmp (bound_map trimmed_parts lower) b p) until_is ∙ in_trimmed lower upper p;
  }
  range_asked (Err e) h = h

-- the conjunction of an id with one that is true in the range
pub range_required : (mid last : List Node) (lower upper : Bound Parts) (a range t : NodeId) → Keeps markers mid last → IsTruthOf mid (is_python_in lower upper) range → IsAnd last a range t → (v : Valuation) → truth markers last t v ≡ require lower upper (truth markers last a) v
range_required mid last lower upper a range t k r h v = h.means v ∙ ap (λ b. truth markers last a v && b) (truth_still markers mid last range v k r.held ∙ r.means v)
