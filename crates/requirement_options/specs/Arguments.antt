-- Arguments of options that pip does not take.
use Rattle.std.specs.Prelude.{ℕ, Bool, true, false, ◌||◌, ◌&&◌, ◌==◌, ◌+◌, List, Option, None, Some, codes, length, drop, bytes_eq, nat_eq, if◌then◌else◌}
use Rattle.std.specs.Char.{is_ascii_hexdigit}
use Rattle.std.specs.List.{list_all, list_any, starts_with}
use Rattle.requirement_options.specs.declared.kind.OptionKind.{OptionKind}
use Rattle.requirement_options.specs.declared.kind.OptionKind.TheVariants.{NoBinary, OnlyBinary, UseFeature, Hash, ConfigSettings}
use Rattle.requirement_options.specs.declared.fault.OptionFaultKind.{OptionFaultKind}
use Rattle.requirement_options.specs.declared.fault.OptionFaultKind.TheVariants.{NoArgument, UnknownFeature, InvalidHash, InvalidSetting}

-- a hash by this name, with so many hexadecimal digits
abbrev pub is_digest : List ℕ → ℕ → List ℕ → Bool
is_digest name digits text = starts_with nat_eq text name && length text == length name + digits
    && list_all is_ascii_hexdigit (drop (length name) text)

abbrev pub is_hash : List ℕ → Bool
is_hash text = is_digest (codes "sha256:") 64 text || is_digest (codes "sha384:") 96 text
    || is_digest (codes "sha512:") 128 text

abbrev pub is_feature : List ℕ → Bool
is_feature text = bytes_eq text (codes "fast-deps") || bytes_eq text (codes "truststore")
    || bytes_eq text (codes "no-binary-enable-wheel-cache")

-- KEY=VALUE
abbrev pub is_setting : List ℕ → Bool
is_setting text = list_any (λ c. c == 61) text

-- an option, and not the name of a package
abbrev pub is_option : List ℕ → Bool
is_option text = starts_with nat_eq text (codes "-")

abbrev pub fault_unless : Bool → OptionFaultKind → Option OptionFaultKind
fault_unless good fault = if good then None else Some fault

-- what is wrong with the argument of an option
abbrev pub argument_fault : OptionKind → List ℕ → Option OptionFaultKind
argument_fault UseFeature text = fault_unless (is_feature text) UnknownFeature
argument_fault Hash text = fault_unless (is_hash text) InvalidHash
argument_fault ConfigSettings text = fault_unless (is_setting text) InvalidSetting
argument_fault NoBinary text = if is_option text then Some NoArgument else None
argument_fault OnlyBinary text = if is_option text then Some NoArgument else None
argument_fault kind text = None
