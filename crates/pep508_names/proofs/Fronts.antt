-- The front of a list that was written in place.
use Rattle.std.proofs.Common.{◌≡◌, ◌≤◌, ◌++◌, ℕ, List, arith, drop, length, take}
use Rattle.std.proofs.lemmas.Grind.{common_steps}
use Rattle.pep508_names.specs.Name.{NormalizesTo}

front_of : (new old : List ℕ) (len whole : ℕ) → length new ≡ whole → len ≤ whole
    → take len (take whole (new ++ drop (length new) old)) ≡ take len new
front_of new old len whole all fits = grind (arith, common_steps)

-- the front of the bytes of a name, after the pass over them, is the normal form
pub front-normal : (name now new old kept : List ℕ) (len whole : ℕ) (n : List ℕ) → now ≡ old → old ≡ name → length now ≡ whole → length new ≡ length now
    → len ≤ length now → ((m : List ℕ) → NormalizesTo now m → take len new ≡ m) → NormalizesTo name n
    → kept ≡ take len (take whole (new ++ drop (length new) old)) → kept ≡ n
front-normal name now new old kept len whole n h1 h2 h3 h4 h5 h6 h7 h8 = grind (arith, front_of)
