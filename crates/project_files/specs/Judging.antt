-- What a judgement says of each file for which it is told what the maps and flags tell.
use Rattle.std.specs.Prelude.{ℕ, List, Bool, Option}
use Rattle.std.specs.BTreeMap.{BTreeMap}
use Rattle.project_files.specs.declared.key.Section.{Section}
use Rattle.project_files.specs.declared.key.Section.TheVariants.{Group, Extra}
use Rattle.project_files.specs.declared.entry.ProjectFaultKind.{ProjectFaultKind}
use Rattle.project_files.specs.Entries.{EntryOf}
use Rattle.project_files.specs.Firsts.{first_in, KnowsFirsts}
use Rattle.project_files.specs.Links.{EndedIn}
use Rattle.project_files.specs.Faults.{Judges, JudgesInclude, JudgesName}

abbrev pub NameIs : (List ℕ → Option ℕ) → ℕ → List ℕ → Option ProjectFaultKind → Type 0
NameIs found place name fault = (es : List EntryOf) (section : Section)
    → KnowsFirsts es section found → JudgesName es section place name fault

abbrev pub IncludeIs : (List ℕ → Option ℕ) → List Bool → List ℕ → Option ProjectFaultKind → Type 0
IncludeIs groups ended name fault = (es : List EntryOf)
    → KnowsFirsts es Group groups → EndedIn es ended → JudgesInclude es name fault

abbrev pub EntryIs : BTreeMap (List ℕ) ℕ → BTreeMap (List ℕ) ℕ → List Bool → ℕ → EntryOf
    → Option ProjectFaultKind → Type 0
EntryIs groups extras ended place e fault = (es : List EntryOf)
    → KnowsFirsts es Group (first_in groups) → KnowsFirsts es Extra (first_in extras)
    → EndedIn es ended → Judges es place e fault
