-- At most eight bytes are mixed in as the word that they are, and more as their words.
use Rattle.std.proofs.Common.{◌≡◌, ℕ, ◌*◌, ◌/◌, ◌%◌, ◌^◌, ◌<◌, ◌≤◌, Bool, cond, List, [], ◌∷◌, length, arith}
use Rattle.std.proofs.lemmas.Bool.{eq-eqb, ne_eqb}
use mathlib.Core.Path.{ap, sym, ◌∙◌}
use Rattle.std.proofs.lemmas.Nat.{from_le_bytes-to_le_bytes_4, from_le_bytes-to_le_bytes_8}
use Rattle.std.specs.Hash.{le_bytes}
use Rattle.std.specs.Int.{from_le_bytes, w32, w64}
use Rattle.node_hasher.specs.declared.NodeHasher.{NodeHasher}
use Rattle.node_hasher.specs.Hash.{mixed, mixed_part, mixed_words, word_of, write}

module _ (before after : NodeHasher) (x : ℕ) where
  pub one_byte : after ≡ mixed_part before x 1 → after ≡ write before (x ∷ [])
  unfolding write mixed_words
  one_byte mixes =
      let word : x ≡ from_le_bytes w64 (x ∷ []) = omega arith in
      mixes ∙ ap (λ (w : ℕ). mixed_part before w 1) word

  pub four_bytes : after ≡ mixed_part before x 4 → x < 2 ^ 32 → after ≡ write before (le_bytes 4 x)
  unfolding write mixed_words le_bytes
  four_bytes mixes fits =
      let short : from_le_bytes w32 (le_bytes 4 x) ≡ x = from_le_bytes-to_le_bytes_4 x fits in
      let word : x ≡ from_le_bytes w64 (le_bytes 4 x) = omega (arith, short) in
      mixes ∙ ap (λ (w : ℕ). mixed_part before w 4) word

  pub eight_bytes : after ≡ mixed before x → x < 2 ^ 64 → after ≡ write before (le_bytes 8 x)
  unfolding write mixed_words le_bytes
  eight_bytes mixes fits = mixes ∙ ap (mixed before) (sym (from_le_bytes-to_le_bytes_8 x fits))

module _ (before most after : NodeHasher) (bytes : List ℕ) (most_is : most ≡ mixed_words before bytes (length bytes / 8)) where
  abbrev words : NodeHasher
  words = mixed_words before bytes (length bytes / 8)

  abbrev last : ℕ
  last = word_of bytes (8 * (length bytes / 8))

  pub whole_words : length bytes % 8 ≤ 0 → most ≡ write before bytes
  unfolding write
  whole_words none = most_is ∙ ap (λ (b : Bool). cond b words (mixed_part words last (length bytes % 8))) (sym (eq-eqb (length bytes % 8) 0 (omega (arith, none))))

  pub part_at_end : (word : ℕ) → word ≡ last → after ≡ mixed_part most word (length bytes % 8) → 0 < length bytes % 8 → after ≡ write before bytes
  unfolding write
  part_at_end word is mixes some =
      mixes ∙ ap (λ (w : ℕ). mixed_part most w (length bytes % 8)) is ∙ ap (λ (h : NodeHasher). mixed_part h last (length bytes % 8)) most_is
      ∙ ap (λ (b : Bool). cond b words (mixed_part words last (length bytes % 8))) (sym (ne_eqb (length bytes % 8) 0 (λ e. omega (arith, e, some))))
