-- What a version is read from in `serde`'s formats.
use Rattle.std.specs.Prelude.{ℕ, List}
use Rattle.serde.specs.Event.{Event, text}
use Rattle.serde.specs.Steps.{Gives}
use Rattle.serde.specs.declared.deserializer.Deserializer.{Deserializer}
use Rattle.marker_environment.specs.declared.string_version.StringVersion.{StringVersion}
use Rattle.marker_environment.specs.Written.{SaysVersion}

-- the input gives a text, and the version is kept with it and says it
abbrev pub IsReadFrom : {F E M : Type 0} → (F → List ℕ → Event → F → Type 0)
    → Deserializer F E M → Deserializer F E M → StringVersion → Type 0
IsReadFrom gives old new version =
    (t : List ℕ) × Gives gives old (text t) new × SaysVersion t version
