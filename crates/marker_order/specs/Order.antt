-- The order of diagrams of any tables. A diagram is written as a list of marks, and these lists are
-- ordered as words are: constants first, then by the first variable, and then edge by edge, by
-- lower bound, upper bound and subtree.
use Rattle.std.specs.Prelude.{◌≡◌, ℕ, Bool, ◌==◌, List, [], ◌∷◌, ◌++◌, Option, Some, None, length, string_bytes, if◌then◌else◌}
use Rattle.std.proofs.Common.{suc}
use Rattle.std.specs.Option.{option_cmp}
use Rattle.std.specs.Ordering.{nat_cmp, on, ordering_then, then_cmp}
use Rattle.std.specs.Range.Bound.{bound_map}
use Rattle.std.specs.declared.cmp.Ordering.{Ordering}
use Rattle.std.specs.declared.ops.Bound.{Bound}
use Rattle.std.specs.declared.ops.Bound.TheVariants.{Included, Excluded, Unbounded}
use Rattle.std.specs.Cmp.Lexicographic.{slice_cmp}
use Rattle.version_ranges.specs.Point.{Point, at, above, begin_point, point_cmp}
use Rattle.version_ranges.specs.Parts.{Part, parts_of}
use Rattle.pep440_version.specs.Parts.{Parts}
use Rattle.pep440_version.specs.Order.{version_cmp}
use Rattle.marker_diagrams.specs.declared.node_id.NodeId.{NodeId}
use Rattle.marker_diagrams.specs.Id.{place_of, is_negated, signed_id}
use Rattle.marker_nodes.specs.Node.{Node}
use Rattle.marker_nodes.specs.declared.node.Branches.TheVariants.{Version, Text, Truth}
use Rattle.marker_nodes.specs.Variable.{Variable, of_version, of_text, truth_variable, rank}
use Rattle.marker_words.specs.Compare.{text_cmp}

-- a mark: which sort it is of, and what it says
pub record Mark : Type 0 where
  pub sort : ℕ
  pub variable : List ℕ
  pub version : Option (Point Parts)
  pub text : Option (Point (List ℕ))

abbrev pub mark_cmp : Mark → Mark → Ordering
mark_cmp =
    then_cmp (on (λ (m : Mark). m.sort) nat_cmp)
    (then_cmp (on (λ (m : Mark). m.variable) (slice_cmp nat_cmp))
    (then_cmp (on (λ (m : Mark). m.version) (option_cmp (point_cmp version_cmp)))
    (on (λ (m : Mark). m.text) (option_cmp (point_cmp text_cmp)))))

abbrev bare : ℕ → Mark
bare sort = record { sort = sort; variable = []; version = None; text = None }

-- no edge is left: before each edge, so the diagram that has no more comes first
abbrev pub end : Mark
end = bare 0

-- `TRUE`, and then `FALSE`
abbrev pub constant : Bool → Mark
constant negated = if negated then bare 2 else bare 1

abbrev pub asks : Variable → Mark
asks x = record { sort = 3; variable = rank x; version = None; text = None }

-- bounds by the points at which they begin and end; a missing upper bound comes last
abbrev version_mark : ℕ → Point Parts → Mark
version_mark sort p = record { sort = sort; variable = []; version = Some p; text = None }

abbrev pub version_lower : Bound Parts → Mark
version_lower b = version_mark 4 (begin_point b)

abbrev pub version_upper : Bound Parts → Mark
version_upper (Excluded v) = version_mark 5 (at v)
version_upper (Included v) = version_mark 5 (above v)
version_upper Unbounded = bare 6

abbrev text_mark : ℕ → Point (List ℕ) → Mark
text_mark sort p = record { sort = sort; variable = []; version = None; text = Some p }

abbrev pub text_lower : Bound (List ℕ) → Mark
text_lower b = text_mark 4 (begin_point b)

abbrev pub text_upper : Bound (List ℕ) → Mark
text_upper (Excluded v) = text_mark 5 (at v)
text_upper (Included v) = text_mark 5 (above v)
text_upper Unbounded = bare 6

-- edge by edge, if `marks` are those of a subtree
module _ {T : Type 0} (lower upper : Bound T → Mark) (marks : NodeId → List Mark) where
  abbrev pub edges_marks : List (Part T NodeId) → List Mark
  edges_marks [] = end ∷ []
  edges_marks (p ∷ ps) =
      lower p.lower ∷ upper p.upper ∷ (marks p.value ++ edges_marks ps)

-- an id of a node, if `marks` are those of an id below it
abbrev pub node_marks : (NodeId → List Mark) → Node → List Mark
node_marks marks (Version x edges) =
    asks (of_version x) ∷ edges_marks version_lower version_upper marks (parts_of edges)
node_marks marks (Text x edges) =
    asks (of_text x) ∷ edges_marks (λ b. text_lower (bound_map string_bytes b))
    (λ b. text_upper (bound_map string_bytes b)) marks (parts_of edges)
node_marks marks (Truth x high low) = asks (truth_variable x) ∷ (marks high ++ marks low)

abbrev pub marks_of : List Node → NodeId → List Mark
marks_of [] t = constant (is_negated t) ∷ []
marks_of (n ∷ older) t =
    if place_of t == suc (length older)
    then node_marks (λ c. marks_of older (signed_id (is_negated t) c)) n
    else marks_of older t

-- an id and its nodes
abbrev pub diagram_cmp : List Node × NodeId → List Node × NodeId → Ordering
diagram_cmp = on (λ (d : List Node × NodeId). marks_of d.0 d.1) (slice_cmp mark_cmp)

-- If two lists are extended, the rest decides only if the lists are equal: neither ends before they
-- differ.
pub record Tells (a b : List Mark) : Type 0 where
  pub goes_on : (x y : List Mark) → slice_cmp mark_cmp (a ++ x) (b ++ y)
      ≡ ordering_then (slice_cmp mark_cmp a b) (slice_cmp mark_cmp x y)
