-- What a version is read from in `serde`'s formats.
use Rattle.std.specs.Prelude.{ℕ, List}
use Rattle.serde.specs.Event.{Event, text}
use Rattle.serde.specs.Steps.{Gives}
use Rattle.serde.specs.declared.deserializer.Deserializer.{Deserializer}
use Rattle.pep440_version.specs.Grammar.{IsVersionText}
use Rattle.pep440_version.specs.Parts.{Parts}

-- the input gives a text of the version
abbrev pub IsReadFrom : {F E M : Type 0} → (F → List ℕ → Event → F → Type 0)
    → Deserializer F E M → Deserializer F E M → Parts → Type 0
IsReadFrom gives old new v = (t : List ℕ) × Gives gives old (text t) new × IsVersionText t v
