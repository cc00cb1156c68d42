-- What becomes of a buffer of the caller, and of the number of bytes that it should have.
use Rattle.std.specs.Prelude.{◌≡◌, ◌≤◌, ◌<◌, ◌++◌, ◌⊎◌, ℕ, List, length, drop}

-- the bytes are at the start of the buffer, and the rest of it is as it was
pub record Fits (bytes old new : List ℕ) (needed : ℕ) : Type 0 where
  pub count : needed ≡ length bytes
  pub room : length bytes ≤ length old
  pub written : new ≡ bytes ++ drop (length bytes) old

-- the buffer is too small for the bytes, and is as it was
pub record IsTooSmall (bytes old new : List ℕ) (needed : ℕ) : Type 0 where
  pub count : needed ≡ length bytes
  pub room : length old < length bytes
  pub kept : new ≡ old

-- the bytes are written if the buffer is large enough for them
abbrev pub IsHandedOver : List ℕ → List ℕ → List ℕ → ℕ → Type 0
IsHandedOver bytes old new needed = Fits bytes old new needed ⊎ IsTooSmall bytes old new needed

-- bytes of which this holds are written
abbrev pub Writes : (List ℕ → Type 0) → List ℕ → List ℕ → ℕ → Type 0
Writes P old new needed = (bytes : List ℕ) × P bytes × Fits bytes old new needed

-- the buffer is too small for bytes of which this holds
abbrev pub WouldWrite : (List ℕ → Type 0) → List ℕ → List ℕ → ℕ → Type 0
WouldWrite P old new needed = (bytes : List ℕ) × P bytes × IsTooSmall bytes old new needed

-- bytes of which this holds are written if the buffer is large enough for them
abbrev pub WritesIfRoom : (List ℕ → Type 0) → List ℕ → List ℕ → ℕ → Type 0
WritesIfRoom P old new needed = (bytes : List ℕ) × P bytes × IsHandedOver bytes old new needed
