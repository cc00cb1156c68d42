-- The tree of a marker text, and why a text has none. (PEP 508.)
use Rattle.std.specs.Prelude.{◌≡◌, ◌≤◌, ⊤, ℕ, List, Option, Result, String, Vec, IfErr, OnErr, option_map, string_bytes}
use Rattle.refusal.specs.declared.Refusal.{Refusal}
use Rattle.refusal.specs.declared.Refusal.TheVariants.{OutOfMemory, SegmentAtEnd, Fault}
use Rattle.pep508_errors.specs.declared.error.Pep508Error.{Pep508Error}
use Rattle.refusal.specs.Refused.{IfFault}
use Rattle.pep508_errors.specs.declared.warning.MarkerWarningKind.{MarkerWarningKind}
use Rattle.pep508_errors.specs.Kinds.{Adds, Keeps}
use Rattle.marker_parts.specs.Expression.{Overflows}
use Rattle.marker_parts.specs.Error.{IsErrorOf}
use Rattle.marker_parts.specs.Reporting.{HasBegun}
use Rattle.marker_parts.specs.declared.expression.MarkerExpression.{MarkerExpression}
use Rattle.marker_terms.specs.Clauses.{clauses_of}
use Rattle.marker_graph.specs.declared.tree.MarkerTree.{MarkerTree}
use Rattle.marker_graph.specs.Contents.{Contents, HoldsTheSame, IsHeld, IsKept, truth}
pub use Rattle.marker_graph.specs.Texts.{IsTreeOf}
use Rattle.marker_grammar.specs.Formula.{Formula}
use Rattle.marker_grammar.specs.Grammar.{Reads}
use Rattle.marker_grammar.specs.Refused.{IsMarker, IsNoMarker}
use Rattle.marker_grammar.specs.HasTest.{Says}
use Rattle.marker_view.specs.Dnf.{AreClausesOf, TellsExtra}
use Rattle.marker_view.specs.Text.{TellsText}

-- the text is a marker, and a bound of a comparison in it would be above 2^64 - 1
abbrev pub TextOverflows : List ℕ → Type 0
TextOverflows text =
    (f : Option Formula) × ((kinds : List MarkerWarningKind) × Reads text f kinds)
    × Says Overflows f

module _ {T E : Type 0} where
  -- why there is no tree of the marker at the end of a text
  abbrev pub IsRefusalIn : List ℕ → List ℕ → Refusal (Pep508Error T E) → Type 0
  IsRefusalIn text marker OutOfMemory = ⊤
  IsRefusalIn text marker SegmentAtEnd = TextOverflows marker
  IsRefusalIn text marker (Fault error) = IsNoMarker marker × IsErrorOf IsMarker text error

  -- why there is no tree of the text
  abbrev pub IsRefusal : List ℕ → Refusal (Pep508Error T E) → Type 0
  IsRefusal text = IsRefusalIn text text

  -- a fact about a text that is refused for what it is, and not because memory ran out
  abbrev pub OnRefusedText : Refusal (Pep508Error T E) → Type 0 → Type 0
  OnRefusedText OutOfMemory P = ⊤
  OnRefusedText SegmentAtEnd P = P
  OnRefusedText (Fault error) P = P

-- a fact of a call that is refused with a fault
abbrev pub OnFault : {A E : Type 0} → Result A (Refusal E) → Type 0 → Type 0
OnFault result P = IfErr result (λ refusal. IfFault refusal (λ _. P))

-- an interner keeps what it holds, and its count of conjunctions does not fall
pub record OnlyGrows (old new : Contents) : Type 0 where
  pub kept : IsKept old new
  pub counts : old.expansions ≤ new.expansions

module _ {A E : Type 0} where
  -- so it does; after a refusal it holds no more than before, and after a fault it is as it was
  pub record KeepsInterner (result : Result A (Refusal E)) (old new : Contents) : Type 0 where
    pub grows : OnlyGrows old new
    pub untouched : OnFault result (new ≡ old)
    pub released : OnErr result (HoldsTheSame old new)

-- the kinds of a reporter
abbrev pub Kinds : Type 0
Kinds = Option (List MarkerWarningKind)

-- over whether a reporter can report and which kinds it has, and the reporter before and after
module _ {R A T E : Type 0} (can_report : R → Type 0) (reported : R → Kinds) (old new : R) where
  -- A text that is refused for what it is has no warning reported, and another refused one at most
  -- the first of its warnings. The reporter can report again.
  pub record TellsReporter {Read : Type 0}
      (ReadsAs : List ℕ → Read → List MarkerWarningKind → Type 0) (text : List ℕ)
      (result : Result A (Refusal (Pep508Error T E))) : Type 0 where
    pub unreported : IfErr result
        (λ refusal. OnRefusedText refusal (Keeps (reported old) (reported new)))
    pub begun : IfErr result (λ _. HasBegun ReadsAs text (reported old) (reported new))
    pub again : can_report new

-- the interner has the tree, and it means what the text says, with warnings of these kinds
pub record HoldsTreeOf (c : Contents) (text : List ℕ) (t : MarkerTree)
    (kinds : List MarkerWarningKind) : Type 0 where
  pub held : IsHeld c t
  pub means : IsTreeOf c text t kinds

-- the tree is that of the text, and the kinds of its warnings have been reported
abbrev pub IsReportedTree : Contents → List ℕ → Kinds → Kinds → MarkerTree → Type 0
IsReportedTree c text before after t =
    (kinds : List MarkerWarningKind) × HoldsTreeOf c text t kinds × Adds before after kinds

-- the tree is that of the text, with some warnings
abbrev pub SaysText : Contents → List ℕ → MarkerTree → Type 0
SaysText c text t = (kinds : List MarkerWarningKind) × HoldsTreeOf c text t kinds

-- the text, or nothing, is that of the tree
abbrev pub TellsTree : {A : Type 0} → Contents → MarkerTree → Option (String A) → Type 0
TellsTree c t text = TellsText (truth c t) (option_map string_bytes text)

-- the clauses are those of the tree
abbrev pub HasClauses : {A B : Type 0} → Contents → MarkerTree → Vec (Vec MarkerExpression A) B
    → Type 0
HasClauses c t clauses = AreClausesOf c t (clauses_of clauses.items)

-- the comparison, or nothing, is the first extra of each of the tree's clauses, which are such
abbrev pub TellsExtraOf : (List (List MarkerExpression) → Type 0) → Contents → MarkerTree
    → Option MarkerExpression → Type 0
TellsExtraOf Such c t found = (clauses : List (List MarkerExpression)) × Such clauses
    × AreClausesOf c t clauses × TellsExtra clauses found
