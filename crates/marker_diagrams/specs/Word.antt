-- Ids as they are fed to a hash function.
use Rattle.std.specs.Prelude.{◌≡◌, ℕ, ◌+◌, ◌*◌, ◌==◌, Bool, true, false, IsTrue, if◌then◌else◌}
use Rattle.std.specs.Hash as fed
use Rattle.std.proofs.Common.{refl}
use Rattle.std.proofs.lemmas.Bool.{and_parts, eqb-true, false≢true}
use mathlib.Core.Bool.{beq}
use Rattle.marker_diagrams.specs.declared.node_id.NodeId.{NodeId}
use Rattle.marker_diagrams.specs.Id.{place_of, is_negated, same_id}

-- a sign as a number
abbrev pub bit_of : Bool → ℕ
bit_of negated = if negated then 1 else 0

-- the place and the sign as one number, whose lowest bit is the sign
abbrev pub word_of : NodeId → ℕ
word_of t = 2 * place_of t + bit_of (is_negated t)

same_bits : (a b : Bool) → beq a b ≡ true → bit_of a ≡ bit_of b
same_bits true true e = refl
same_bits true false e = absurd (false≢true e)
same_bits false true e = absurd (false≢true e)
same_bits false false e = refl

-- equal ids are fed alike
pub same_words : (a b : NodeId) → IsTrue (same_id a b) → fed.u64 (word_of a) ≡ fed.u64 (word_of b)
same_words a b e =
    let parts = and_parts (a.place == b.place) (beq a.complement b.complement) e in
    let places : a.place ≡ b.place = eqb-true a.place b.place parts.0 in
    let bits : bit_of a.complement ≡ bit_of b.complement =
    same_bits a.complement b.complement parts.1 in
    λ i. fed.u64 (2 * places i + bits i)
