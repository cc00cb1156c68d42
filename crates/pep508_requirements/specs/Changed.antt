-- A requirement without its URL.
use Rattle.std.specs.Prelude.{Option, Some, None}
use Rattle.pep508_requirements.specs.declared.version_or_url.VersionOrUrl.{VersionOrUrl}
use Rattle.pep508_requirements.specs.declared.version_or_url.VersionOrUrl.TheVariants.{VersionSpecifier, Url}

-- specifiers stay, and a URL is removed
abbrev pub without_url : {T E : Type 0} → Option (VersionOrUrl T E) → Option (VersionOrUrl T E)
without_url None = None
without_url (Some (VersionSpecifier set)) = Some (VersionSpecifier set)
without_url (Some (Url url)) = None
