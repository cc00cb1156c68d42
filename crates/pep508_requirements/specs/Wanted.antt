-- The versions or URL of a requirement, borrowed, and their text.
use Rattle.std.specs.Prelude.{ℕ, List, Option, Some}
use Rattle.pep440_specifier.specs.Set.{set_text}
use Rattle.pep508_requirements.specs.declared.version_or_url.VersionOrUrl.{VersionOrUrl}
use Rattle.pep508_requirements.specs.declared.version_or_url.VersionOrUrl.TheVariants.{VersionSpecifier, Url}
use Rattle.pep508_requirements.specs.declared.version_or_url.VersionOrUrlRef.{VersionOrUrlRef}
use Rattle.pep508_requirements.specs.declared.version_or_url.VersionOrUrlRef.TheVariants as references

-- the value behind a reference
abbrev pub lent_wanted : {T E : Type 0} → VersionOrUrlRef T E → VersionOrUrl T E
lent_wanted (references.VersionSpecifier set) = VersionSpecifier set.now
lent_wanted (references.Url url) = Url url.now

-- the set, or the URL if its text is known: `url_text` is what URLs print
abbrev pub wanted_text : {T E : Type 0} → (T → Option (List ℕ)) → VersionOrUrl T E → Option (List ℕ)
wanted_text url_text (VersionSpecifier set) = Some (set_text set)
wanted_text url_text (Url url) = url_text url
