-- What raising the last number writes.
use Rattle.std.proofs.Common.{◌≡◌, ◌∷◌, [], suc, ℕ, ◌+◌, ◌-◌, ◌<◌, Some, List, length, get_or, set, refl, ap, arith}
use Rattle.pep440_rs.specs.Intervals.{last_number, raised}

pub last-read : (xs : List ℕ) → 0 < length xs → last_number xs ≡ Some (get_or xs (length xs - 1) 0)
last-read [] h = absurd (omega arith)
last-read (x ∷ []) h = refl
last-read (x ∷ y ∷ r) h =
    let e : length (x ∷ y ∷ r) - 1 ≡ suc (length (y ∷ r) - 1) = omega arith in
    rw e (last-read (y ∷ r) (omega arith))

pub raised-set : (xs : List ℕ) → 0 < length xs → raised xs ≡ set xs (length xs - 1) (get_or xs (length xs - 1) 0 + 1)
raised-set [] h = absurd (omega arith)
raised-set (x ∷ []) h = refl
raised-set (x ∷ y ∷ r) h =
    let e : length (x ∷ y ∷ r) - 1 ≡ suc (length (y ∷ r) - 1) = omega arith in
    rw e (ap (λ (z : List ℕ). x ∷ z) (raised-set (y ∷ r) (omega arith)))
