-- The meaning of a parser's state: which results for the whole text are still possible.
use Rattle.std.specs.Prelude.{◌≡◌, ◌↔◌, ◌<◌, ℕ, ◌+◌, Bool, IfSome, List, [], ◌∷◌, Option, reverse, length, All}
use Rattle.std.specs.Str.{chars}
use Rattle.pep508_text.specs.Suffix.{IsSuffix}
use Rattle.pep508_errors.specs.declared.warning.MarkerWarningKind.{MarkerWarningKind}
use Rattle.marker_parts.specs.declared.comparison.ComparisonError.{ComparisonError}
use Rattle.marker_parts.specs.declared.comparison.ComparisonError.TheVariants.{OutOfMemory, Fault}
use Rattle.marker_grammar.specs.declared.reader.Group.{Group}
use Rattle.marker_grammar.specs.declared.reader.Reader.{Reader}
use Rattle.marker_grammar.specs.declared.reader.Wanted.{Wanted}
use Rattle.marker_grammar.specs.declared.reader.Wanted.TheVariants as wanted
use Rattle.marker_grammar.specs.Formula.{Formula}
use Rattle.marker_grammar.specs.Reading.{Level, Before, After}
use Rattle.marker_grammar.specs.Postfix.{stack_of, top_of, IsPostfix, IsWhole}
use Rattle.marker_grammar.specs.Valid.{IsValid}
use Rattle.marker_grammar.specs.Refused.{OpensMarker, IsTextFault}
use Rattle.marker_grammar.specs.Stack.{top_if, below, count}

-- what an `or` and its last `and` have so far, and the stack below both
abbrev pub level : Bool → Bool → List Formula → Level
level has_or has_and stack = record {
  ors = top_if has_or (below has_and stack);
  ands = top_if has_and stack;
}

abbrev pub under : Bool → Bool → List Formula → List Formula
under has_or has_and stack = below has_or (below has_and stack)

-- the open parentheses, the innermost first
abbrev pub outer_of : List Group → List Formula → List Level
outer_of [] stack = []
outer_of (g ∷ groups) stack =
    level g.has_or g.has_and stack ∷ outer_of groups (under g.has_or g.has_and stack)

-- how many formulas the open parentheses have
abbrev pub total : List Group → ℕ
total [] = 0
total (g ∷ groups) = count g.has_and + (count g.has_or + total groups)

module _ (r : Reader) where
  abbrev pub stack_in : List Formula
  stack_in = stack_of r.tokens.items

  abbrev pub outer_in : List Level
  outer_in = outer_of (reverse r.groups.items) (under r.has_or r.has_and stack_in)

  abbrev pub ors_in : Option Formula
  ors_in = top_if r.has_or (below r.has_and stack_in)

  abbrev pub ands_in : Option Formula
  ands_in = top_if r.has_and stack_in

  -- the formula of a text that is read to its end
  abbrev pub formula_in : Option Formula
  formula_in = top_of stack_in

  -- the stack has as many formulas as the lists, none was lost, no test compares texts by `~=`, and
  -- the rest and each open parenthesis are at the end of the text
  pub record IsSound : Type 0 where
    pub full : length stack_in ≡ count r.has_and + (count r.has_or + total (reverse r.groups.items))
    pub postfix : IsPostfix r.tokens.items
    pub valid : IsValid r.tokens.items
    pub rest : IsSuffix r.text.now r.rest.now
    pub groups : All (λ g. IsSuffix r.text.now g.text.now) r.groups.items

abbrev Kinds : Type 0
Kinds = List MarkerWarningKind

-- what the text may still be read as
abbrev pub MayRead : Wanted → Reader → Option Formula → Kinds → Type 0
MayRead wanted.Atom r = Before (outer_in r) (ors_in r) (ands_in r) (chars r.rest.now) r.kinds.items
MayRead wanted.Rest r = After (outer_in r) (ors_in r) (ands_in r) (chars r.rest.now) r.kinds.items

-- a step leaves the same readings
abbrev pub LeavesReadings : Wanted → Reader → Wanted → Reader → Type 0
LeavesReadings v r w s = (f : Option Formula) (k : Kinds) → MayRead v r f k ↔ MayRead w s f k

-- less of the same text is left
pub record Advances (r s : Reader) : Type 0 where
  pub text : s.text.now ≡ r.text.now
  pub shorter : length s.rest.now < length r.rest.now

-- the same of what follows an atom, unless the text ends there
abbrev pub AdvancesOn : Reader → Reader → Option Wanted → Type 0
AdvancesOn r s next = IfSome next (λ _. Advances r s)

-- one reading is left: the formula and the kinds that a reader has at the end of the text
abbrev pub LeavesOne : Reader → Reader → Type 0
LeavesOne r s = (f : Option Formula) (k : Kinds) →
    MayRead wanted.Rest r f k ↔ ((formula_in s ≡ f) × (s.kinds.items ≡ k))

-- the same text has ended: one reading is left, and the tokens are a whole and valid formula
pub record HasEnded (r s : Reader) : Type 0 where
  pub text : s.text.now ≡ r.text.now
  pub one : LeavesOne r s
  pub whole : IsWhole s.tokens.items
  pub valid : IsValid s.tokens.items

-- the rest of a text may end it, with these lists open
abbrev pub EndsAtom : Option Formula → Option Formula → List ℕ → Kinds → List Level → Type 0
EndsAtom ors ands input kinds outer =
    (f : Option Formula) × ((k : Kinds) × Before outer ors ands input kinds f k)

abbrev pub EndsRest : Option Formula → Option Formula → List ℕ → Kinds → List Level → Type 0
EndsRest ors ands input kinds outer =
    (f : Option Formula) × ((k : Kinds) × After outer ors ands input kinds f k)

abbrev pub MayEnd : Wanted → Reader → List Level → Type 0
MayEnd wanted.Atom r = EndsAtom (ors_in r) (ands_in r) (chars r.rest.now) r.kinds.items
MayEnd wanted.Rest r = EndsRest (ors_in r) (ands_in r) (chars r.rest.now) r.kinds.items

-- Each parenthesis, the innermost first, opens a marker if the rest may end the text with no other
-- parenthesis open but those inside it.
abbrev pub AllOpen : (List Level → Type 0) → List Group → List Formula → Type 0
AllOpen May [] stack = Unit {0}
AllOpen May (g ∷ groups) stack =
    (May [] → OpensMarker g.text.now)
    × AllOpen (λ outer. May (level g.has_or g.has_and stack ∷ outer)) groups
    (under g.has_or g.has_and stack)

abbrev pub IsOpened : Wanted → Reader → Type 0
IsOpened w r = AllOpen (MayEnd w r) (reverse r.groups.items) (under r.has_or r.has_and (stack_in r))

-- a step leaves the same readings, and keeps each parenthesis open
pub record Continues (v : Wanted) (r : Reader) (w : Wanted) (s : Reader) : Type 0 where
  pub readings : LeavesReadings v r w s
  pub opened : IsOpened v r → IsOpened w s

-- the same of what follows an atom, unless the text ends there
abbrev pub ContinuesOn : Reader → Reader → Option Wanted → Type 0
ContinuesOn r s next = IfSome next (λ w. Continues wanted.Rest r w s)

-- why the reader stopped: memory ran out, or there is a fault of the text, and then no reading is
-- left
abbrev pub IsRefusal : Wanted → Reader → ComparisonError → Type 0
IsRefusal w r OutOfMemory = Unit {0}
IsRefusal w r (Fault e) =
    (IsOpened w r → IsTextFault r.text.now e)
    × ((f : Option Formula) (k : Kinds) → MayRead w r f k → ⊥)
