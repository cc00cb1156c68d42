-- Types of URLs, and the errors of texts without a URL.
use Rattle.std.specs.Prelude.{◌≡◌, Bool, true, false, Result}
use Rattle.refusal.specs.Refused.{FaultIs}
use Rattle.refusal.specs.declared.Refusal.{Refusal}
use Rattle.url.specs.declared.error.ParseError.{ParseError}
use Rattle.url.specs.declared.error.ParseError.TheVariants.{Overflow}

-- no value is such
abbrev pub HasNone : {T : Type 0} → (T → Type 0) → Type 0
HasNone {T} IsSuch = (value : T) → ¬ IsSuch value

-- a fact of a call that is refused with a fault of size
abbrev pub OnSizeFault : {T E : Type 0} → (E → Bool) → Result T (Refusal E) → Type 0 → Type 0
OnSizeFault tells_size result P = FaultIs result (λ fault. tells_size fault ≡ true → P)

-- a fact of a call that is refused with another fault
abbrev pub OnOtherFault : {T E : Type 0} → (E → Bool) → Result T (Refusal E) → Type 0 → Type 0
OnOtherFault tells_size result P = FaultIs result (λ fault. tells_size fault ≡ false → P)

-- the URL would come to 4 GB
abbrev pub is_overflow : ParseError → Bool
is_overflow Overflow = true
is_overflow _ = false
