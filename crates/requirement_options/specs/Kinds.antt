-- The options of requirements files, as pip 23.2.1 has them.
use Rattle.std.specs.Prelude.{ℕ, Bool, true, false, ◌||◌, ◌==◌, List, [], ◌∷◌, Option, None, Some, codes, bytes_eq, find, filter, fold, nat_eq, if◌then◌else◌}
use Rattle.std.specs.List.{starts_with}
use Rattle.requirement_options.specs.declared.kind.OptionKind.{OptionKind}
use Rattle.requirement_options.specs.declared.kind.OptionKind.TheVariants.{IndexUrl, ExtraIndexUrl, NoIndex, Constraint, Requirement, Editable, FindLinks, NoBinary, OnlyBinary, PreferBinary, RequireHashes, Pre, TrustedHost, UseFeature, GlobalOption, Hash, ConfigSettings}
use Rattle.requirement_options.specs.declared.naming.Naming.{Naming}
use Rattle.requirement_options.specs.declared.naming.Naming.TheVariants.{Unknown, One, Several}

abbrev pub kinds : List OptionKind
kinds = IndexUrl ∷ ExtraIndexUrl ∷ NoIndex ∷ Constraint ∷ Requirement ∷ Editable ∷ FindLinks
    ∷ NoBinary ∷ OnlyBinary ∷ PreferBinary ∷ RequireHashes ∷ Pre ∷ TrustedHost ∷ UseFeature
    ∷ GlobalOption ∷ Hash ∷ ConfigSettings ∷ []

abbrev pub name_of : OptionKind → List ℕ
name_of IndexUrl = codes "--index-url"
name_of ExtraIndexUrl = codes "--extra-index-url"
name_of NoIndex = codes "--no-index"
name_of Constraint = codes "--constraint"
name_of Requirement = codes "--requirement"
name_of Editable = codes "--editable"
name_of FindLinks = codes "--find-links"
name_of NoBinary = codes "--no-binary"
name_of OnlyBinary = codes "--only-binary"
name_of PreferBinary = codes "--prefer-binary"
name_of RequireHashes = codes "--require-hashes"
name_of Pre = codes "--pre"
name_of TrustedHost = codes "--trusted-host"
name_of UseFeature = codes "--use-feature"
name_of GlobalOption = codes "--global-option"
name_of Hash = codes "--hash"
name_of ConfigSettings = codes "--config-settings"

abbrev pub takes_argument : OptionKind → Bool
takes_argument NoIndex = false
takes_argument PreferBinary = false
takes_argument RequireHashes = false
takes_argument Pre = false
takes_argument kind = true

-- an option after a single `-`, by its letter; each takes an argument
abbrev pub short_option : ℕ → Option OptionKind
short_option c =
    if c == 105 then Some IndexUrl else (if c == 99 then Some Constraint
    else (if c == 114 then Some Requirement else (if c == 101 then Some Editable
    else (if c == 102 then Some FindLinks else (if c == 67 then Some ConfigSettings
    else None)))))

-- the name is one of the option: `--pypi-url` is an older name of `--index-url`
abbrev pub is_named : OptionKind → List ℕ → Bool
is_named IndexUrl name =
    bytes_eq name (codes "--index-url") || bytes_eq name (codes "--pypi-url")
is_named kind name = bytes_eq name (name_of kind)

-- a name of the option begins with this
abbrev pub begins_with : OptionKind → List ℕ → Bool
begins_with IndexUrl front =
    starts_with nat_eq (codes "--index-url") front || starts_with nat_eq (codes "--pypi-url") front
begins_with kind front = starts_with nat_eq (name_of kind) front

-- the result with a further option whose name begins with this
abbrev pub also : Naming → OptionKind → Naming
also Unknown kind = One kind
also (One other) kind = Several
also Several kind = Several

abbrev pub exact_or : Naming → Option OptionKind → Naming
exact_or other None = other
exact_or other (Some kind) = One kind

-- the only option of these with a name that begins with this
abbrev pub abbreviated : List OptionKind → List ℕ → Naming
abbreviated options front = fold also Unknown (filter (λ kind. begins_with kind front) options)

-- The option of a name after `--`: one of exactly that name, otherwise the only one whose name
-- begins with it.
abbrev pub long_option : List ℕ → Naming
long_option name =
    exact_or (abbreviated kinds name) (find (λ kind. is_named kind name) kinds)
