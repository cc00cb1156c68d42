-- A text with kinds of warnings, and what is reported of them.
use Rattle.std.specs.Prelude.{◌≡◌, ◌⊎◌, ℕ, List, [], ◌++◌, Option}
use Rattle.pep508_errors.specs.declared.warning.MarkerWarningKind.{MarkerWarningKind}
use Rattle.pep508_errors.specs.Kinds.{Adds, Keeps}
use Rattle.marker_parts.specs.declared.expression.MarkerExpression.{MarkerExpression}
use Rattle.marker_parts.specs.Whole.{IsRead}

abbrev Kinds : Type 0
Kinds = List MarkerWarningKind

-- the first of these kinds were reported, or none
abbrev pub ReportsSome : Kinds → Option Kinds → Option Kinds → Type 0
ReportsSome kinds before after =
    (front back : Kinds) × (kinds ≡ front ++ back) × Adds before after front

-- over what texts are read as, and with which kinds
module _ {Read : Type 0} (Reads : List ℕ → Read → Kinds → Type 0) where
  -- nothing, or the first kinds of the warnings of a text that is read
  abbrev pub IsBeginning : List ℕ → Kinds → Type 0
  IsBeginning text front =
      (front ≡ []) ⊎ ((read : Read) × (back : Kinds) × Reads text read (front ++ back))

  -- at most a beginning of the text's kinds was reported
  abbrev pub HasBegun : List ℕ → Option Kinds → Option Kinds → Type 0
  HasBegun text before after = (front : Kinds) × Adds before after front × IsBeginning text front

-- over the kinds that were reported, and a reporter before and after
module _ {R : Type 0} (reported : R → Option Kinds) (old new : R) where
  -- it reported the first of these kinds, or none
  abbrev pub ReportsSomeOf : Kinds → Type 0
  ReportsSomeOf kinds = ReportsSome kinds (reported old) (reported new)

  -- it reported nothing
  abbrev pub ReportsNone : Type 0
  ReportsNone = Keeps (reported old) (reported new)

  -- the expression is read from the text, and the kinds of its warnings were reported
  abbrev pub ReadsAndReports : List ℕ → Option MarkerExpression → Type 0
  ReadsAndReports text expression =
      (kinds : Kinds) × IsRead text expression kinds × Adds (reported old) (reported new) kinds

  -- at most a beginning of the kinds of the text was reported
  abbrev pub ReportsPart : List ℕ → Type 0
  ReportsPart text = HasBegun IsRead text (reported old) (reported new)
