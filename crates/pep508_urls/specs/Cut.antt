-- Texts that are cut in two.
use Rattle.std.specs.Prelude.{◌≡◌, ℕ, List}

-- a text is cut at one place
abbrev pub CutsOnce : (List ℕ → List ℕ → List ℕ → Type 0) → Type 0
CutsOnce Cuts =
    (text front rest other more : List ℕ) → Cuts text front rest → Cuts text other more
    → (front ≡ other) × (rest ≡ more)
