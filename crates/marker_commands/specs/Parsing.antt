-- What a command knows of a marker that it parsed, and of a text that was refused.
use Rattle.std.specs.Prelude.{◌≡◌, ◌⊎◌, ℕ, List, Bool, Option}
use Rattle.refusal.specs.declared.Refusal.{Refusal}
use Rattle.refusal.specs.declared.Refusal.TheVariants as refusals
use Rattle.pep508_errors.specs.declared.warning.MarkerWarningKind.{MarkerWarningKind}
use Rattle.marker_environment.specs.Valuation.{Valuation}
use Rattle.marker_grammar.specs.Formula.{Formula}
use Rattle.marker_grammar.specs.Formula as formulas
use Rattle.marker_grammar.specs.Grammar.{Reads}
use Rattle.marker_graph.specs.declared.tree.MarkerTree.{MarkerTree}
use Rattle.marker_graph.specs.Contents.{Contents, IsHeld, truth}
use Rattle.marker_commands.specs.declared.outcome.Outcome.{Outcome}
use Rattle.marker_commands.specs.declared.outcome.Outcome.TheVariants.{Invalid, TooLarge, TooComplex, OutOfMemory}

-- the text is a marker, and this is its truth
pub record ReadsAs (text : List ℕ) (f : Valuation → Bool) : Type 0 where
  pub formula : Option Formula
  pub kinds : List MarkerWarningKind
  pub reads : Reads text formula kinds
  pub means : (v : Valuation) → f v ≡ formulas.truth formula v

-- the interner has the tree, which means what the text says
pub record IsTreeFor (c : Contents) (text : List ℕ) (t : MarkerTree) : Type 0 where
  pub held : IsHeld c t
  pub reads : ReadsAs text (truth c t)

-- this outcome, unless its message had no memory
abbrev pub Told : Outcome → Outcome → Type 0
Told outcome result = (result ≡ outcome) ⊎ (result ≡ OutOfMemory)

-- memory ran out, or the interner has no room
abbrev pub IsShort : Outcome → Type 0
IsShort result = Told TooComplex result

-- the outcome of a refusal
abbrev pub Refuses : {E : Type 0} → Refusal E → Outcome → Type 0
Refuses refusals.OutOfMemory result = IsShort result
Refuses refusals.SegmentAtEnd result = Told TooLarge result
Refuses (refusals.Fault fault) result = Told Invalid result
