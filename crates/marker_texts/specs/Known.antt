-- Which marker texts are known.
use Rattle.std.specs.Prelude.{◌≡◌, ℕ, List, Some, slice_get, string_bytes}
use Rattle.marker_diagrams.specs.declared.node_id.NodeId.{NodeId}
use Rattle.marker_texts.specs.declared.known_texts.KnownText.{KnownText}
use Rattle.marker_texts.specs.declared.known_texts.KnownTexts.{KnownTexts}

-- the text is in one of the slots, with this id
abbrev pub IsKnown : KnownTexts → List ℕ → NodeId → Type 0
IsKnown texts text id = (at : ℕ) × (known : KnownText)
    × (slice_get texts.slots.items at ≡ Some (Some known))
    × (string_bytes known.text ≡ text) × (known.id ≡ id)
