-- What slots hold.
use Rattle.std.proofs.Common.{◌≡◌, ℕ, zero, suc, ◌<◌, ◌≤◌, Bool, true, List, [], ◌∷◌, ◌++◌, Option, Some, None, length, slice_get, get_or, ◌⊎◌, inl, inr, refl, sym, ap, ◌∙◌}
use Rattle.std.specs.Prelude.{slice_set, string_bytes}
use Rattle.std.specs.Str.{bytes_eq}
use Rattle.std.specs.Cmp.Lexicographic.{bytes_decides}
use Rattle.std.proofs.lemmas.Option.{slice_get-get_or}
use Rattle.marker_diagrams.specs.declared.node_id.NodeId.{NodeId}
use Rattle.marker_diagrams.specs.Id.{place_of}
use Rattle.marker_texts.specs.declared.known_texts.KnownText.{KnownText}

abbrev Slots : Type 0
Slots = List (Option KnownText)

-- one of the slots has the text with the id
abbrev pub Has : Slots → List ℕ → NodeId → Type 0
Has slots text id = (at : ℕ) × (known : KnownText) × (slice_get slots at ≡ Some (Some known)) × (string_bytes known.text ≡ text) × (known.id ≡ id)

-- no id of the slots has a higher place
abbrev pub AreWithin : Slots → ℕ → Type 0
AreWithin slots highest = (at : ℕ) (known : KnownText) → slice_get slots at ≡ Some (Some known) → place_of known.id ≤ highest

-- the text was found in its slot
pub found : (slots : Slots) (at : ℕ) (slot : Option KnownText) (known : KnownText) (text asked : List ℕ) (same : Bool) → at < length slots → slot ≡ get_or slots at slot → Some known ≡ slot →
    text ≡ string_bytes known.text → same ≡ bytes_eq text asked → same ≡ true → Has slots asked known.id
found slots at slot known text asked same within read is text_is same_is so =
    (at, known, slice_get-get_or slots at slot within ∙ ap Some (sym read ∙ sym is), sym text_is ∙ (bytes_decides text asked).0 (sym same_is ∙ so), refl)

-- ---- an empty slot more
in_pushed : (old : Slots) (at : ℕ) (known : KnownText) → slice_get (old ++ None ∷ []) at ≡ Some (Some known) → slice_get old at ≡ Some (Some known)
in_pushed [] zero known e = absurd cc
in_pushed [] (suc at) known e = absurd cc
in_pushed (x ∷ old) zero known e = e
in_pushed (x ∷ old) (suc at) known e = in_pushed old at known e

module _ (old new : Slots) (pushed : new ≡ old ++ None ∷ []) where
  pub pushed_within : (highest : ℕ) → AreWithin old highest → AreWithin new highest
  pushed_within highest all at known e = all at known (in_pushed old at known (ap (λ l. slice_get l at) (sym pushed) ∙ e))

  pub pushed_has : (text : List ℕ) (id : NodeId) → Has new text id → Has old text id
  pushed_has text id h = (h.0, h.1, in_pushed old h.0 h.1 (ap (λ l. slice_get l h.0) (sym pushed) ∙ h.2), h.3, h.4)

pub same_has : (old new : Slots) → new ≡ old → (text : List ℕ) (id : NodeId) → Has new text id → Has old text id
same_has old new same text id h = (h.0, h.1, ap (λ l. slice_get l h.0) (sym same) ∙ h.2, h.3, h.4)

-- ---- a text in a slot
in_set : (slots : Slots) (at other : ℕ) (put known : KnownText) → slice_get (slice_set slots at (Some put)) other ≡ Some (Some known) → (slice_get slots other ≡ Some (Some known)) ⊎ (put ≡ known)
in_set [] at other put known e = absurd cc
in_set (x ∷ slots) zero zero put known e = inr cc
in_set (x ∷ slots) zero (suc other) put known e = inl e
in_set (x ∷ slots) (suc at) zero put known e = inl e
in_set (x ∷ slots) (suc at) (suc other) put known e = in_set slots at other put known e

module _ (slots : Slots) (at : ℕ) (put : KnownText) where
  set_has : (text : List ℕ) → string_bytes put.text ≡ text → (other : List ℕ) (id : NodeId) → Has (slice_set slots at (Some put)) other id → Has slots other id ⊎ ((other ≡ text) × (id ≡ put.id))
  set_has text is other id h = by_case (in_set slots at h.0 put h.1 h.2)
    where
      by_case : (slice_get slots h.0 ≡ Some (Some h.1)) ⊎ (put ≡ h.1) → Has slots other id ⊎ ((other ≡ text) × (id ≡ put.id))
      by_case (inl e) = inl (h.0, h.1, e, h.3, h.4)
      by_case (inr e) = inr (sym h.3 ∙ ap (λ k. string_bytes k.text) (sym e) ∙ is, sym h.4 ∙ ap (λ k. k.id) (sym e))

  -- what is known now was known before slots were added, or is the text
  pub added_has : (first : Slots) (text : List ℕ) → string_bytes put.text ≡ text → ((other : List ℕ) (id : NodeId) → Has slots other id → Has first other id) →
      (other : List ℕ) (id : NodeId) → Has (slice_set slots at (Some put)) other id → Has first other id ⊎ ((other ≡ text) × (id ≡ put.id))
  added_has first text is left other id h = by_case (set_has text is other id h)
    where
      by_case : Has slots other id ⊎ ((other ≡ text) × (id ≡ put.id)) → Has first other id ⊎ ((other ≡ text) × (id ≡ put.id))
      by_case (inl e) = inl (left other id e)
      by_case (inr e) = inr e
