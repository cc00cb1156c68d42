-- Lists of places, one for each number.
use Rattle.std.proofs.Common.{◌≡◌, ◌≢◌, ◌<◌, ℕ, List, [], map, length, get_or, set, sym, ap, ◌∙◌, arith}
use Rattle.std.specs.Prelude.{Vec}
use Rattle.std.proofs.lemmas.List.{get_or-map, get_or-set_same, get_or-set_other, map-set, length-map}

module _ {A : Type 0} where
  items : Vec ℕ A → List ℕ
  items v = v.items

  -- the list at a number
  pub places_at : (lists : List (Vec ℕ A)) (n : ℕ) (v : Vec ℕ A) → n < length lists → v ≡ get_or lists n v → get_or (map (λ (x : Vec ℕ A). x.items) lists) n [] ≡ v.items
  places_at lists n v l e = get_or-map (λ (x : Vec ℕ A). x.items) lists n v [] l ∙ ap (λ (x : Vec ℕ A). x.items) (sym e)

  -- and another list in its place
  pub places_set : (lists : List (Vec ℕ A)) (n : ℕ) (v : Vec ℕ A) → n < length lists → get_or (map (λ (x : Vec ℕ A). x.items) (set lists n v)) n [] ≡ v.items
  places_set lists n v h1 = grind (arith, get_or, map-set, get_or-set_same, map, length, length-map)

  pub places_other : (lists : List (Vec ℕ A)) (n k : ℕ) (v : Vec ℕ A) → k ≢ n → get_or (map (λ (x : Vec ℕ A). x.items) (set lists n v)) k [] ≡ get_or (map (λ (x : Vec ℕ A). x.items) lists) k []
  places_other lists n k v h1 = grind (arith, get_or, map-set, get_or-set_other, map)
