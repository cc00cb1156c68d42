-- The name of a distribution, character by character.
use Rattle.std.proofs.Common.{◌≡◌, ◌≢◌, ◌==◌, ◌+◌, ◌<◌, ◌++◌, ◌∷◌, [], ◌∙◌, ℕ, List, ap, arith, get_or, if◌then◌else◌, length, sym, take, inl, inr}
use Rattle.std.proofs.lemmas.Bool.{cases_Bool, eq-eqb, ne_eqb}
use Rattle.std.proofs.lemmas.List.{map-append, take_more}
use Rattle.std.specs.Str.{IsAscii}
use Rattle.pep508_names.specs.Name.{dist_info_name}

-- the character in place of a byte
abbrev pub file_character : ℕ → ℕ
file_character c = if c == 45 then 95 else c

file_character-small : (c : ℕ) → c < 128 → file_character c < 128
file_character-small c h = elim (cases_Bool (c == 45)) [ inl dash ↦ rw dash (omega arith) | inr other ↦ rw other h ]

pub dash-stands : (c character : ℕ) → c ≡ 45 → character ≡ 95 → character ≡ file_character c
dash-stands c character dash is = is ∙ rw (eq-eqb c 45 dash)

pub other-stands : (c character : ℕ) → c ≢ 45 → character ≡ c → character ≡ file_character c
other-stands c character other is = is ∙ rw (ne_eqb c 45 other)

pub dist_info-more : (name : List ℕ) (i character : ℕ) (old new encoded : List ℕ) → IsAscii name → i < length name
    → character ≡ file_character (get_or name i 0) → (character < 128 → encoded ≡ character ∷ []) → old ≡ dist_info_name (take i name) → new ≡ old ++ encoded
    → new ≡ dist_info_name (take (i + 1) name)
dist_info-more name i character old new encoded ascii within stands one written grown =
    let small : character < 128 = rw stands (file_character-small (get_or name i 0) (ascii i)) in
    grown
    ∙ (λ k. written k ++ (one small ∙ ap (λ c. c ∷ []) stands) k)
    ∙ sym (ap dist_info_name (take_more name i 0 within) ∙ map-append file_character (take i name) (get_or name i 0 ∷ []))
