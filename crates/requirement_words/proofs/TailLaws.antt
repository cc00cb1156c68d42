-- The end of a requirement.
use Rattle.std.proofs.Common.{◌≡◌, ◌≢◌, ℕ, ◌-◌, true, not, Option, List, [], ◌∷◌, ◌++◌, ◌⊎◌, inl, inr, length, take, refl, sym, ap, ◌∙◌, append_assoc, arith}
use Rattle.std.specs.Str.{chars}
use Rattle.pep508_text.specs.Run.{after_space}
use Rattle.pep508_text.specs.Suffix.{IsSuffix}
use Rattle.requirement_words.specs.Fault.{ambiguous, EndsWithMark, FindsInTail, goes_on}
use Rattle.requirement_words.specs.Tail.{IsTail}
use Rattle.requirement_words.specs.declared.fault.FaultKind.TheVariants.{AmbiguousEnd}
use Rattle.requirement_words.proofs.ExtrasLaws.{not_eqb}

pub not_tail : (rest end : List ℕ) (c : ℕ) (cs : List ℕ) → end ≡ after_space rest → end ≡ c ∷ cs → c ≢ 59 → (marker : Option (List ℕ)) → ¬ IsTail rest marker
not_tail rest end c cs h1 h2 h3 marker = grind arith

goes : (end : List ℕ) (c : ℕ) (cs : List ℕ) → end ≡ c ∷ cs → c ≢ 59 → goes_on end ≡ true
goes end c cs e other = ap goes_on e ∙ ap not (not_eqb c 59 other)

pub ends_ambiguous : {url rest piece : List ℕ} (d c : ℕ) (cs : List ℕ) → url ≡ take (length url - 1) url ++ (d ∷ []) → ((d ≡ 59) ⊎ (d ≡ 35)) → after_space (chars rest) ≡ c ∷ cs → c ≢ 59 → piece ≡ d ∷ []
    → FindsInTail url rest AmbiguousEnd piece rest
ends_ambiguous {url} {rest} {piece} d c cs joined is behind other piece_is =
    ambiguous (record { front = take (length url - 1) url; joined = joined ∙ ap (λ (x : List ℕ). take (length url - 1) url ++ x) (sym piece_is); mark = mark is }) refl (goes (after_space (chars rest)) c cs behind other)
  where
    mark : (d ≡ 59) ⊎ (d ≡ 35) → (piece ≡ 59 ∷ []) ⊎ (piece ≡ 35 ∷ [])
    mark (inl e) = inl (piece_is ∙ ap (λ (x : ℕ). x ∷ []) e)
    mark (inr e) = inr (piece_is ∙ ap (λ (x : ℕ). x ∷ []) e)

-- the URL ends with neither
pub unmarked_url : {url : List ℕ} → ((front : List ℕ) → url ≡ front ++ (59 ∷ []) → ⊥) → ((front : List ℕ) → url ≡ front ++ (35 ∷ []) → ⊥) → (mark : List ℕ) → ¬ EndsWithMark url mark
unmarked_url h1 h2 mark = grind arith

-- the text after a URL is the end of both
pub behind_url : (url rest end : List ℕ) → IsSuffix rest end → IsSuffix (url ++ rest) end
behind_url url rest end s = record { front = url ++ s.front; joined = ap (λ (x : List ℕ). url ++ x) s.joined ∙ sym (append_assoc url s.front end); utf8 = s.utf8 }
