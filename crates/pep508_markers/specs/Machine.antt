-- The machine of a session: its cells contain truths over valuations, and it answers one request
-- after another.
use Rattle.std.specs.Prelude.{◌≡◌, ◌≢◌, ◌⊎◌, ℕ, ◌≤◌, Bool, true, false, not, ◌&&◌, ◌||◌, List, [], ◌∷◌, ◌++◌, length, Option, Some, slice_get}
use Rattle.std.specs.declared.ops.Bound.{Bound}
use Rattle.pep440_version.specs.Parts.{Parts}
use Rattle.marker_words.specs.Fault.{IsMarkerFault}
use Rattle.pep508_errors.specs.declared.warning.MarkerWarningKind.{MarkerWarningKind}
use Rattle.marker_environment.specs.Valuation.{Valuation}
use Rattle.marker_environment.specs.Environment.{Values, valuation_of}
use Rattle.marker_parts.specs.Expression.{Test, holds, Overflows}
use Rattle.marker_graph.specs.Expression.{IsInvalid}
use Rattle.marker_graph.specs.Python.{Assumes, require}
use Rattle.marker_graph.specs.Extras.{grant, is_listed}
use Rattle.marker_graph.specs.Possible.{IsPossible, IsImpossible}
use Rattle.marker_grammar.specs.Formula.{Formula}
use Rattle.marker_grammar.specs.Formula as formulas
use Rattle.marker_grammar.specs.Grammar.{Reads}
use Rattle.marker_grammar.specs.Refused.{IsMarker, IsNoMarker}
use Rattle.marker_grammar.specs.HasTest.{Says}
use Rattle.marker_view.specs.Text.{TellsText}
use Rattle.pep508_markers.specs.Text.{TextOverflows}

abbrev pub Truth : Type 0
Truth = Valuation → Bool

abbrev pub Cells : Type 0
Cells = List Truth

-- a request that makes a cell
pub data Making : Type 0 where
  -- of a text
  parse : List ℕ → Making
  expression : Test → Making
  -- of cells by their numbers
  negation : ℕ → Making
  conjunction : ℕ → ℕ → Making
  disjunction : ℕ → ℕ → Making
  -- of a cell and the bounds of a range of Python versions
  simplify_python : ℕ → Bound Parts → Bound Parts → Making
  complexify_python : ℕ → Bound Parts → Bound Parts → Making
  -- of a cell and the extras
  simplify_extras : ℕ → List (List ℕ) → Making

-- a query about cells by their numbers
pub data Question : Type 0 where
  equal : ℕ → ℕ → Question
  disjoint : ℕ → ℕ → Question
  -- a cell, the values of an environment, and the extras
  evaluate : ℕ → Values → List (List ℕ) → Question
  -- a cell and the extras
  evaluate_extras : ℕ → List (List ℕ) → Question

pub data Request : Type 0 where
  make : Making → Request
  ask : Question → Request
  -- of a cell by its number
  print : ℕ → Request

pub data Reason : Type 0 where
  no_such_cell : Reason
  out_of_memory : Reason
  -- a bound would be above 2^64 - 1
  segment_at_end : Reason
  -- `~=` would compare texts
  invalid_expression : Reason
  -- the start, length and message of a fault
  marker : ℕ → ℕ → List ℕ → Reason

pub data Answer : Type 0 where
  cell : ℕ → List MarkerWarningKind → Answer
  truth_is : Bool → Answer
  -- what is true everywhere has no text
  text_is : Option (List ℕ) → Answer
  refused : Reason → Answer

-- the cell of this number holds this truth
abbrev pub Holds : Cells → ℕ → Truth → Type 0
Holds cells a f = slice_get cells a ≡ Some f

-- the request makes a cell of this truth, with these kinds of warnings
abbrev pub Makes : Cells → Making → Truth → List MarkerWarningKind → Type 0
Makes cells (parse t) f kinds =
    (g : Option Formula) × Reads t g kinds × (¬ Says Overflows g) × (f ≡ formulas.truth g)
Makes cells (expression e) f kinds =
    (¬ Overflows e) × (¬ IsInvalid e) × (f ≡ holds e) × (kinds ≡ [])
Makes cells (negation a) f kinds =
    (g : Truth) × Holds cells a g × (f ≡ (λ v. not (g v))) × (kinds ≡ [])
Makes cells (conjunction a b) f kinds =
    (g : Truth) × (h : Truth) × Holds cells a g × Holds cells b h × (f ≡ (λ v. g v && h v))
    × (kinds ≡ [])
Makes cells (disjunction a b) f kinds =
    (g : Truth) × (h : Truth) × Holds cells a g × Holds cells b h × (f ≡ (λ v. g v || h v))
    × (kinds ≡ [])
Makes cells (simplify_python a lower upper) f kinds =
    (g : Truth) × Holds cells a g × Assumes lower upper g f × (kinds ≡ [])
Makes cells (complexify_python a lower upper) f kinds =
    (g : Truth) × Holds cells a g × (f ≡ require lower upper g) × (kinds ≡ [])
Makes cells (simplify_extras a extras) f kinds =
    (g : Truth) × Holds cells a g × (f ≡ grant (is_listed extras) g) × (kinds ≡ [])

-- two truths agree at each valuation, or differ at some valuation
abbrev pub TellsEqual : Truth → Truth → Bool → Type 0
TellsEqual f g true = (v : Valuation) → f v ≡ g v
TellsEqual f g false = (v : Valuation) × (f v ≢ g v)

-- no valuation satisfies two truths, or here is one that does
abbrev pub TellsDisjoint : Truth → Truth → Bool → Type 0
TellsDisjoint f g true = (v : Valuation) → (f v && g v) ≡ false
TellsDisjoint f g false = (v : Valuation) × ((f v && g v) ≡ true)

-- some valuation with exactly these extras satisfies a truth, or none does
abbrev pub TellsPossible : List (List ℕ) → Truth → Bool → Type 0
TellsPossible extras f true = IsPossible extras f
TellsPossible extras f false = IsImpossible extras f

-- the query has this answer
abbrev pub Tells : Cells → Question → Bool → Type 0
Tells cells (equal a b) t =
    (f : Truth) × (g : Truth) × Holds cells a f × Holds cells b g × TellsEqual f g t
Tells cells (disjoint a b) t =
    (f : Truth) × (g : Truth) × Holds cells a f × Holds cells b g × TellsDisjoint f g t
Tells cells (evaluate a values extras) t =
    (f : Truth) × Holds cells a f × (t ≡ f (valuation_of values extras))
Tells cells (evaluate_extras a extras) t =
    (f : Truth) × Holds cells a f × TellsPossible extras f t

-- the cells that a request names
abbrev pub named : Request → List ℕ
named (make (parse t)) = []
named (make (expression e)) = []
named (make (negation a)) = a ∷ []
named (make (conjunction a b)) = a ∷ b ∷ []
named (make (disjunction a b)) = a ∷ b ∷ []
named (make (simplify_python a lower upper)) = a ∷ []
named (make (complexify_python a lower upper)) = a ∷ []
named (make (simplify_extras a extras)) = a ∷ []
named (ask (equal a b)) = a ∷ b ∷ []
named (ask (disjoint a b)) = a ∷ b ∷ []
named (ask (evaluate a values extras)) = a ∷ []
named (ask (evaluate_extras a extras)) = a ∷ []
named (print a) = a ∷ []

-- one of the numbers is that of no cell
abbrev pub IsMissing : Cells → List ℕ → Type 0
IsMissing cells [] = ⊥
IsMissing cells (a ∷ numbers) = (length cells ≤ a) ⊎ IsMissing cells numbers

-- Why a request is refused.
pub data IsRefusal (cells : Cells) : Request → Reason → Type 0 where
  missing : {request : Request} → IsMissing cells (named request)
      → IsRefusal cells request no_such_cell
  -- only what makes a cell or a text takes memory, and the cells that it names are looked up first
  starved : {making : Making} → ¬ IsMissing cells (named (make making))
      → IsRefusal cells (make making) out_of_memory
  no_text : {a : ℕ} → ¬ IsMissing cells (named (print a)) → IsRefusal cells (print a) out_of_memory
  -- a bound of a comparison would be above 2^64 - 1
  text_overflows : {text : List ℕ} → TextOverflows text
      → IsRefusal cells (make (parse text)) segment_at_end
  overflows : {test : Test} → Overflows test
      → IsRefusal cells (make (expression test)) segment_at_end
  -- texts are compared by `~=`
  invalid : {test : Test} → IsInvalid test
      → IsRefusal cells (make (expression test)) invalid_expression
  -- the text is an invalid marker, and this is a fault of it
  no_marker : {text message : List ℕ} {start len : ℕ} → IsNoMarker text
      → IsMarkerFault IsMarker text start len message
      → IsRefusal cells (make (parse text)) (marker start len message)

-- From the cells old the machine may give this answer to the request and move to the cells new. It
-- may choose when memory runs out for a new cell or a text, which fault of a text is reported, and
-- which text of a cell.
pub data Step (old : Cells) : Request → Answer → Cells → Type 0 where
  makes : {making : Making} {number : ℕ} {kinds : List MarkerWarningKind} {new : Cells} (f : Truth)
      → Makes old making f kinds → number ≡ length old → new ≡ old ++ (f ∷ [])
      → Step old (make making) (cell number kinds) new
  tells : {question : Question} {t : Bool} {new : Cells}
      → Tells old question t → new ≡ old → Step old (ask question) (truth_is t) new
  prints : {a : ℕ} {text : Option (List ℕ)} {new : Cells} (f : Truth)
      → Holds old a f → TellsText f text → new ≡ old → Step old (print a) (text_is text) new
  refuses : {request : Request} {reason : Reason} {new : Cells}
      → IsRefusal old request reason → new ≡ old → Step old request (refused reason) new

-- one step after another
pub data Run : Cells → List Request → List Answer → Cells → Type 0 where
  done : {cells : Cells} → Run cells [] [] cells
  next : {old middle new : Cells} {request : Request} {answer : Answer} {requests : List Request}
      {answers : List Answer} → Step old request answer middle → Run middle requests answers new
      → Run old (request ∷ requests) (answer ∷ answers) new
