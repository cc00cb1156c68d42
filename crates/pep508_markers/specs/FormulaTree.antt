-- What a tree of a formula is, and why none is made.
use Rattle.std.specs.Prelude.{◌≡◌, ⊤, Option}
use Rattle.refusal.specs.declared.Refusal.{Refusal}
use Rattle.refusal.specs.declared.Refusal.TheVariants.{OutOfMemory, SegmentAtEnd, Fault}
use Rattle.marker_environment.specs.Valuation.{Valuation}
use Rattle.marker_graph.specs.declared.tree.MarkerTree.{MarkerTree}
use Rattle.marker_graph.specs.Contents.{Contents, truth}
use Rattle.marker_grammar.specs.Formula.{Formula}
use Rattle.marker_grammar.specs.Formula as formulas

-- the tree means what the formula does
abbrev pub Means : Contents → Option Formula → MarkerTree → Type 0
Means c f t = (v : Valuation) → truth c t v ≡ formulas.truth f v

-- why there is no tree: memory ran out, or P: a bound of a test would be above 2^64 - 1
abbrev pub IsRefusal : {E : Type 0} → Type 0 → Refusal E → Type 0
IsRefusal P OutOfMemory = ⊤
IsRefusal P SegmentAtEnd = P
IsRefusal P (Fault e) = ⊥
