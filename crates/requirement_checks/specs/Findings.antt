-- What is found in a line of a requirements file, by name.
use Rattle.std.specs.Prelude.{◌≡◌, ⊤, List, [], ◌∷◌, ◌++◌, All, map, Option, None, Some, Vec}
use Rattle.std.specs.declared.alloc.Global.{Global}
use Rattle.marker_graph.specs.Contents.{Contents, IsHeld}
use Rattle.pep508_errors.specs.declared.warning.MarkerWarningKind.{MarkerWarningKind}
use Rattle.pep508_errors.specs.declared.warning.MarkerWarningKind.TheVariants as kinds
use Rattle.requirement_findings.specs.Names.{severity_of}
use Rattle.requirement_findings.specs.declared.finding.Finding.{Finding}
use Rattle.requirement_findings.specs.declared.name.FindingName.{FindingName}
use Rattle.requirement_findings.specs.declared.name.FindingName.TheVariants.{InvalidRequirement, NumberTooLarge, TooComplex, UnclosedQuotes, UnknownOption, AmbiguousOption, MissingArgument, UnwantedArgument, UnknownFeature, InvalidHash, InvalidSetting, IgnoredOption, LostText, DeprecatedMarkerName, InvalidExtraComparison, LexicographicComparison, MarkerMarkerComparison, InvalidVersionComparison, StringStringComparison}
use Rattle.requirement_findings.specs.declared.name.Severity.TheVariants.{Hint}
use Rattle.requirement_options.specs.declared.fault.OptionFault.{OptionFault}
use Rattle.requirement_options.specs.declared.fault.OptionFaultKind.{OptionFaultKind}
use Rattle.requirement_options.specs.declared.fault.OptionFaultKind.TheVariants as faults
use Rattle.requirement_checks.specs.Reading.{kinds_of}
use Rattle.requirement_checks.specs.declared.reading.Reading.{Reading}
use Rattle.requirement_checks.specs.declared.reading.Reading.TheVariants as readings

abbrev pub names_of : List Finding → List FindingName
names_of findings = map (λ finding. finding.name) findings

abbrev pub HasName : FindingName → Finding → Type 0
HasName name finding = finding.name ≡ name

-- the name of a warning
abbrev pub warning_name : MarkerWarningKind → FindingName
warning_name kinds.DeprecatedMarkerName = DeprecatedMarkerName
warning_name kinds.ExtraInvalidComparison = InvalidExtraComparison
warning_name kinds.LexicographicComparison = LexicographicComparison
warning_name kinds.MarkerMarkerComparison = MarkerMarkerComparison
warning_name kinds.Pep440Error = InvalidVersionComparison
warning_name kinds.StringStringComparison = StringStringComparison

-- the name of what is wrong with an option
abbrev pub fault_name : OptionFaultKind → FindingName
fault_name faults.Unclosed = UnclosedQuotes
fault_name faults.Unknown = UnknownOption
fault_name faults.Ambiguous = AmbiguousOption
fault_name faults.NoArgument = MissingArgument
fault_name faults.UnwantedArgument = UnwantedArgument
fault_name faults.UnknownFeature = UnknownFeature
fault_name faults.InvalidHash = InvalidHash
fault_name faults.InvalidSetting = InvalidSetting
fault_name faults.Ignored = IgnoredOption
fault_name faults.LostText = LostText

abbrev pub fault_names : List OptionFault → List FindingName
fault_names found = map (λ fault. fault_name fault.kind) found

abbrev pub warning_names : List MarkerWarningKind → List FindingName
warning_names kinds = map warning_name kinds

-- what is found in a requirement that was read so
abbrev pub names_in : {T E : Type 0} → Reading T E → List FindingName
names_in (readings.Named r warnings) = warning_names (kinds_of warnings.items)
names_in (readings.Unnamed r warnings) = warning_names (kinds_of warnings.items)
names_in (readings.Invalid error) = InvalidRequirement ∷ []
names_in readings.NumberTooLarge = NumberTooLarge ∷ []

-- the findings, if the parsers may have had no room for the marker
abbrev pub names_told : {T E : Type 0} → Option (Reading T E) → List FindingName
names_told None = TooComplex ∷ []
names_told (Some reading) = names_in reading

-- the interner has the parsed marker, if there is one
abbrev pub HoldsMarker : {T E : Type 0} → Contents → Reading T E → Type 0
HoldsMarker c (readings.Named r warnings) = IsHeld c r.marker
HoldsMarker c (readings.Unnamed r warnings) = IsHeld c r.marker
HoldsMarker c (readings.Invalid error) = ⊤
HoldsMarker c readings.NumberTooLarge = ⊤

-- the findings are these and those of before
abbrev pub AddsNames : List FindingName → List Finding → List Finding → Type 0
AddsNames names old new = names_of new ≡ names_of old ++ names

-- the same of vectors
abbrev pub Gains : List FindingName → Vec Finding Global → Vec Finding Global → Type 0
Gains names old new = AddsNames names old.items new.items
