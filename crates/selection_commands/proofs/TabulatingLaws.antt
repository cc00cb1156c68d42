-- The row of a requirement.
use Rattle.std.proofs.Common.{◌≡◌, List, [], ◌∷◌, ◌++◌, Option, Some, sym, ap, ◌∙◌, subst}
use Rattle.requirement_findings.specs.declared.finding.Finding.{Finding}
use Rattle.requirement_findings.specs.declared.finding.Listed.{Listed}
use Rattle.requirement_findings.specs.declared.name.FindingName.TheVariants.{TooComplex}
use Rattle.selection_commands.specs.Markers.{requirement_at, requirement_of}
use Rattle.selection_commands.specs.Tabulating.{IsRow, Tabulates, TabulatesIf, TruthsOf, tabulated, too_complex}
use Rattle.selection_commands.specs.declared.tabulator.Row.{Row}
use Rattle.selection_commands.specs.declared.tabulator.Tabulator.{Tabulator}
use Rattle.selection_commands.specs.declared.written.Stretch.{Stretch}

-- a row after the others
pub row_added : (Is : Row → Type 0) (row : Row) (rows middle more : List Row) (old : List Finding)
    → Is row → middle ≡ rows → more ≡ middle ++ (row ∷ []) → Tabulates Is rows old more old
row_added Is row rows middle more old is same adds =
    subst (λ (x : List Row). Tabulates Is rows old x old) (sym (adds ∙ ap (λ (x : List Row). x ++ (row ∷ [])) same)) (tabulated row is)

-- a finding after the others
pub finding_added : (Is : Row → Type 0) (rows more : List Row) (finding : Finding) (old new : List Finding)
    → finding.name ≡ TooComplex → more ≡ rows → new ≡ old ++ (finding ∷ []) → Tabulates Is rows old more new
finding_added Is rows more finding old new is same adds =
    subst (λ (x : List Row). Tabulates Is rows old x new) (sym same)
    (subst (λ (x : List Finding). Tabulates Is rows old rows x) (sym adds) (too_complex finding is))

-- a requirement that the checker lists
pub tabulates_if : (t : Tabulator) (stretch : Option Stretch) (s : Stretch) (own : Option Listed) (l : Listed) (old : List Finding) (rows : List Row) (new : List Finding)
    → stretch ≡ Some s → own ≡ Some l → Tabulates (IsRow (TruthsOf t (requirement_at s)) l) t.rows.items old rows new
    → TabulatesIf t (requirement_of stretch) own old rows new
tabulates_if t stretch s own l old rows new is is_own tabulates =
    subst (λ (x : Option Stretch). TabulatesIf t (requirement_of x) own old rows new) (sym is)
    (subst (λ (x : Option Listed). TabulatesIf t (requirement_of (Some s)) x old rows new) (sym is_own) tabulates)
