-- A pre-release in a version, or none.
use Rattle.std.specs.Prelude.{Option, option_map}
use Rattle.pep440_version.specs.declared.version.Prerelease.{Prerelease}
use Rattle.pep440_version.specs.declared.version.PrereleaseKind.{PrereleaseKind}
use Rattle.pep440_version.specs.declared.slot.PrereleaseSlot.TheInside.{Inside}

abbrev pub prerelease_in : Inside → Option Prerelease
prerelease_in slot =
    option_map (λ (k : PrereleaseKind). record { kind = k; number = slot.number }) slot.kind
