-- Names of findings, and how much they weigh.
use Rattle.std.specs.Prelude.{ℕ, Bool, List, [], ◌∷◌, codes, bytes_eq}
use Rattle.requirement_findings.specs.declared.name.Severity.{Severity}
use Rattle.requirement_findings.specs.declared.name.Severity.TheVariants.{Error, Warning, Hint}
use Rattle.requirement_findings.specs.declared.name.FindingName.{FindingName}
use Rattle.requirement_findings.specs.declared.name.FindingName.TheVariants.{InvalidRequirement, NumberTooLarge, TooComplex, UnclosedQuotes, UnknownOption, AmbiguousOption, MissingArgument, UnwantedArgument, UnknownFeature, InvalidHash, InvalidSetting, IgnoredOption, LostText, InvalidHeader, RepeatedField, InvalidName, InvalidSpecifiers, InvalidToml, InvalidValue, MissingKey, DynamicValue, RepeatedName, UnknownGroup, EndlessGroup, UnknownValue, DeprecatedMarkerName, InvalidExtraComparison, LexicographicComparison, MarkerMarkerComparison, InvalidVersionComparison, StringStringComparison, ControlCharacter, MarkerInUrl, VersionList, VersionAsText, NeverTrue, AlwaysTrue, RepeatedRequirement, ThreeNumbers, UnprovidedExtra, RepeatedExtra, UrlRequirement}

abbrev pub names : List FindingName
names = InvalidRequirement ∷ NumberTooLarge ∷ TooComplex ∷ UnclosedQuotes ∷ UnknownOption
    ∷ AmbiguousOption ∷ MissingArgument ∷ UnwantedArgument ∷ UnknownFeature ∷ InvalidHash
    ∷ InvalidSetting ∷ IgnoredOption ∷ LostText ∷ InvalidHeader
    ∷ RepeatedField ∷ InvalidName ∷ InvalidSpecifiers ∷ InvalidToml ∷ InvalidValue
    ∷ MissingKey ∷ DynamicValue ∷ RepeatedName ∷ UnknownGroup ∷ EndlessGroup
    ∷ UnknownValue ∷ DeprecatedMarkerName
    ∷ InvalidExtraComparison ∷ LexicographicComparison ∷ MarkerMarkerComparison
    ∷ InvalidVersionComparison ∷ StringStringComparison ∷ ControlCharacter ∷ MarkerInUrl
    ∷ VersionList ∷ VersionAsText ∷ NeverTrue ∷ AlwaysTrue ∷ RepeatedRequirement
    ∷ ThreeNumbers ∷ UnprovidedExtra ∷ RepeatedExtra ∷ UrlRequirement ∷ []

abbrev pub name_of : FindingName → List ℕ
name_of InvalidRequirement = codes "invalid-requirement"
name_of NumberTooLarge = codes "number-too-large"
name_of TooComplex = codes "too-complex"
name_of UnclosedQuotes = codes "unclosed-quotes"
name_of UnknownOption = codes "unknown-option"
name_of AmbiguousOption = codes "ambiguous-option"
name_of MissingArgument = codes "missing-argument"
name_of UnwantedArgument = codes "unwanted-argument"
name_of UnknownFeature = codes "unknown-feature"
name_of InvalidHash = codes "invalid-hash"
name_of InvalidSetting = codes "invalid-setting"
name_of IgnoredOption = codes "ignored-option"
name_of LostText = codes "lost-text"
name_of InvalidHeader = codes "invalid-header"
name_of RepeatedField = codes "repeated-field"
name_of InvalidName = codes "invalid-name"
name_of InvalidSpecifiers = codes "invalid-specifiers"
name_of InvalidToml = codes "invalid-toml"
name_of InvalidValue = codes "invalid-value"
name_of MissingKey = codes "missing-key"
name_of DynamicValue = codes "dynamic-value"
name_of RepeatedName = codes "repeated-name"
name_of UnknownGroup = codes "unknown-group"
name_of EndlessGroup = codes "endless-group"
name_of UnknownValue = codes "unknown-value"
name_of DeprecatedMarkerName = codes "deprecated-marker-name"
name_of InvalidExtraComparison = codes "invalid-extra-comparison"
name_of LexicographicComparison = codes "lexicographic-comparison"
name_of MarkerMarkerComparison = codes "marker-marker-comparison"
name_of InvalidVersionComparison = codes "invalid-version-comparison"
name_of StringStringComparison = codes "string-string-comparison"
name_of ControlCharacter = codes "control-character"
name_of MarkerInUrl = codes "marker-in-url"
name_of VersionList = codes "version-list"
name_of VersionAsText = codes "version-as-text"
name_of NeverTrue = codes "never-true"
name_of AlwaysTrue = codes "always-true"
name_of RepeatedRequirement = codes "repeated-requirement"
name_of ThreeNumbers = codes "three-numbers"
name_of UnprovidedExtra = codes "unprovided-extra"
name_of RepeatedExtra = codes "repeated-extra"
name_of UrlRequirement = codes "url-requirement"

-- the name is written so
abbrev pub is_written : List ℕ → FindingName → Bool
is_written text name = bytes_eq text (name_of name)

abbrev pub severity_of : FindingName → Severity
severity_of DeprecatedMarkerName = Warning
severity_of InvalidExtraComparison = Warning
severity_of LexicographicComparison = Warning
severity_of MarkerMarkerComparison = Warning
severity_of InvalidVersionComparison = Warning
severity_of StringStringComparison = Warning
severity_of ControlCharacter = Hint
severity_of MarkerInUrl = Hint
severity_of VersionList = Hint
severity_of VersionAsText = Hint
severity_of NeverTrue = Hint
severity_of AlwaysTrue = Hint
severity_of RepeatedRequirement = Hint
severity_of ThreeNumbers = Hint
severity_of UnprovidedExtra = Hint
severity_of RepeatedExtra = Hint
severity_of UrlRequirement = Hint
severity_of name = Error
