-- What becomes of a requirement.
use Rattle.std.proofs.Common.{◌≡◌, ℕ, List, [], ◌∷◌, ◌++◌, Option, None, Some, sym, ap, ◌∙◌, subst, inl, inr}
use Rattle.requirement_lines.specs.Character.{Character}
use Rattle.requirement_options.specs.Content.{said_in}
use Rattle.requirement_options.specs.Line.{line_read}
use Rattle.requirement_findings.specs.declared.finding.CheckedLine.{CheckedLine}
use Rattle.requirement_findings.specs.declared.finding.Finding.{Finding}
use Rattle.requirement_findings.specs.declared.finding.Listed.{Listed}
use Rattle.requirement_checks.specs.Lines.{requirement_in, IsChecked}
use Rattle.selection_commands.specs.declared.truth.Truth.{Truth}
use Rattle.selection_commands.specs.Markers.{requirement_at, requirement_of}
use Rattle.selection_commands.specs.Selecting.{Chooses, Selects, SelectsIf, TruthOf, left_out, listed, not_known, too_complex, without_text}
use Rattle.selection_commands.specs.declared.selector.Choice.{Choice}
use Rattle.selection_commands.specs.declared.selector.Choice.TheVariants as choices
use Rattle.selection_commands.specs.declared.selector.Selector.{Selector}
use Rattle.selection_commands.specs.declared.written.Stretch.{Stretch}

-- it is listed
pub entry_listed : (Has : Truth → Type 0) (choice : Choice) (own entry : Listed) (old : List Finding)
    → choice ≡ choices.Listed → Chooses Has choice → without_text entry ≡ without_text own → Selects Has own old (Some entry) old
entry_listed Has choice own entry old is chooses same = listed entry (subst (Chooses Has) is chooses) same

-- it is left out
pub entry_left_out : (Has : Truth → Type 0) (choice : Choice) (own : Listed) (old : List Finding)
    → choice ≡ choices.LeftOut → Chooses Has choice → Selects Has own old None old
entry_left_out Has choice own old is chooses = left_out (subst (Chooses Has) is chooses)

-- it is reported, after the other findings
pub reported : (Has : Truth → Type 0) (choice : Choice) (own : Listed) (finding : Finding) (old new : List Finding)
    → choice ≡ choices.Reported finding → Chooses Has choice → new ≡ old ++ (finding ∷ []) → Selects Has own old None new
reported Has choice own finding old new is chooses adds =
    let why : Chooses Has (choices.Reported finding) = subst (Chooses Has) is chooses in
    subst (λ (x : List Finding). Selects Has own old None x) (sym adds)
    (elim why [ inl complex ↦ too_complex finding complex | inr unknown ↦ not_known finding unknown.0 unknown.1 ])

-- a requirement that the checker lists
pub selects_if : (selector : Selector) (stretch : Option Stretch) (s : Stretch) (own : Option Listed) (l : Listed) (old : List Finding) (entry : Option Listed) (new : List Finding)
    → stretch ≡ Some s → own ≡ Some l → Selects (TruthOf selector (requirement_at s)) l old entry new
    → SelectsIf selector (requirement_of stretch) own old entry new
selects_if selector stretch s own l old entry new is is_own selects =
    subst (λ (x : Option Stretch). SelectsIf selector (requirement_of x) own old entry new) (sym is)
    (subst (λ (x : Option Listed). SelectsIf selector (requirement_of (Some s)) x old entry new) (sym is_own) selects)

-- the requirement of a line that was read
pub said_so : {folder : List ℕ} {line : List Character} {found : CheckedLine} (stretch : Option Stretch) → IsChecked folder line found
    → requirement_of stretch ≡ requirement_in (said_in found.line.content) → requirement_of stretch ≡ requirement_in (line_read line).said
said_so stretch checks is = is ∙ ap (λ r. requirement_in r.said) checks.read
