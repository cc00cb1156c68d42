-- Markers under a range of Python versions and with extras that are granted.
use Rattle.std.specs.Prelude.{◌≡◌, ℕ, List, Bool, ◌==◌, if◌then◌else◌}
use Rattle.std.specs.Borrow.{Bor}
use Rattle.std.specs.declared.ops.Bound.{Bound}
use Rattle.std.specs.declared.ops.Bound.TheVariants.{Included, Excluded, Unbounded}
use Rattle.pep440_version.specs.Grammar.{IsVersionText}
use Rattle.pep440_version.specs.Parts.{Parts}
use Rattle.marker_environment.specs.Valuation.{Valuation}
use Rattle.marker_graph.specs.declared.tree.MarkerTree.{MarkerTree}
use Rattle.marker_graph.specs.Contents.{Contents, IsHeld, truth}
use Rattle.marker_simplifications.specs.Extras.{grant}
use Rattle.marker_simplifications.specs.Python.{Assumes}
use Rattle.marker_walks.specs.Possible.{is_listed}
use Rattle.foreign_calls.specs.declared.simplification.BoundText.{BoundText}
use Rattle.foreign_calls.specs.Environment.{bytes_of, Names}
use Rattle.foreign_calls.specs.Marker.{Says, IsTextOf}

-- the bound with its text
unfoldable pub given_bound : BoundText → Bound (List ℕ)
given_bound b = if b.kind == 1 then Included b.version.now
    else (if b.kind == 2 then Excluded b.version.now else Unbounded)

-- the text of the bound's version says the version of a bound of the same kind
pub data SaysBound : Bound (List ℕ) → Bound Parts → Type 0 where
  included : {text : List ℕ} {version : Parts}
      → IsVersionText text version → SaysBound (Included text) (Included version)
  excluded : {text : List ℕ} {version : Parts}
      → IsVersionText text version → SaysBound (Excluded text) (Excluded version)
  unbounded : SaysBound Unbounded Unbounded

-- the tree is another one where the Python version is taken to be in the range
pub record IsInside (c : Contents) (lower upper : Bound Parts) (t inside : MarkerTree)
    : Type 0 where
  pub held : IsHeld c inside
  pub assumes : Assumes lower upper (truth c t) (truth c inside)

-- The truth g is the truth f where the Python version is taken to be in the range and the extras
-- are granted.
pub record IsTaken (lower upper : Bound Parts) (names : List (List ℕ)) (f g : Valuation → Bool)
    : Type 0 where
  pub inside : Valuation → Bool
  pub assumes : Assumes lower upper f inside
  pub grants : (v : Valuation) → g v ≡ grant (is_listed names) inside v

-- the tree is another one in the range and with these extras
pub record IsSimple (c : Contents) (lower upper : Bound Parts) (names : List (List ℕ))
    (t simple : MarkerTree) : Type 0 where
  pub held : IsHeld c simple
  pub taken : IsTaken lower upper names (truth c t) (truth c simple)

-- the bytes are the text of the marker for Python in this range and with these extras
pub record IsSimpleText (text : List ℕ) (lower upper : Bound Parts) (names : List (List ℕ))
    (bytes : List ℕ) : Type 0 where
  pub truth : Valuation → Bool
  pub says : Says text truth
  pub simple : Valuation → Bool
  pub taken : IsTaken lower upper names truth simple
  pub written : IsTextOf simple bytes

-- the same for bounds and extras as another language gives them
pub record IsSimplified (text : List ℕ) (lower upper : BoundText) (extras : List (Bor (List ℕ)))
    (bytes : List ℕ) : Type 0 where
  pub from : Bound Parts
  pub until : Bound Parts
  pub lower_says : SaysBound (given_bound lower) from
  pub upper_says : SaysBound (given_bound upper) until
  pub names : List (List ℕ)
  pub are_names : Names (bytes_of extras) names
  pub text_is : IsSimpleText text from until names bytes
