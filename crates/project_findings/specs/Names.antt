-- Names of findings in projects. Values of the wrong type have one name, whatever their type must
-- be.
use Rattle.std.specs.Prelude.{List, map}
use Rattle.project_files.specs.declared.entry.ProjectFaultKind.{ProjectFaultKind}
use Rattle.project_files.specs.declared.entry.ProjectFaultKind.TheVariants as kinds
use Rattle.requirement_findings.specs.declared.finding.Finding.{Finding}
use Rattle.requirement_findings.specs.declared.name.FindingName.{FindingName}
use Rattle.requirement_findings.specs.declared.name.FindingName.TheVariants.{InvalidValue, MissingKey, DynamicValue, InvalidName, RepeatedName, UnknownGroup, EndlessGroup}

-- the finding that a fault is
abbrev pub fault_name : ProjectFaultKind → FindingName
fault_name kinds.NotATable = InvalidValue
fault_name kinds.NotAList = InvalidValue
fault_name kinds.NotAString = InvalidValue
fault_name kinds.NotAGroupItem = InvalidValue
fault_name kinds.NoRequires = MissingKey
fault_name kinds.NotDynamic = DynamicValue
fault_name kinds.InvalidName = InvalidName
fault_name kinds.RepeatedName = RepeatedName
fault_name kinds.NoSuchGroup = UnknownGroup
fault_name kinds.EndlessGroup = EndlessGroup

-- the names of findings, in their order
abbrev pub names_of : List Finding → List FindingName
names_of findings = map (λ (finding : Finding). finding.name) findings
