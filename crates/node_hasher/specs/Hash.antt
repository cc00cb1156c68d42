-- What a `NodeHasher` computes.
use Rattle.std.specs.Prelude.{ℕ, zero, suc, ◌+◌, ◌-◌, ◌*◌, ◌/◌, ◌%◌, ◌^◌, ◌==◌, List, drop, length, bit_and, bit_xor, if◌then◌else◌}
use Rattle.std.specs.Int.{from_le_bytes, w64}
use Rattle.node_hasher.specs.declared.NodeHasher.{NodeHasher}
use Rattle.node_hasher.specs.declared.NodeState.{NodeState}

-- the state of a key: a word of it is 0 only by the key
unfoldable pub keyed : ℕ → ℕ → NodeState
keyed first second = record {
  initial = bit_xor first 0x243f_6a88_85a3_08d3;
  multiplier = bit_xor second 0x9e37_79b9_7f4a_7c15;
}

-- the hasher that each value begins with
abbrev pub begun : NodeState → NodeHasher
begun state = record { state = state.initial; multiplier = state.multiplier }

-- the two halves of the 128 bits of a product, joined by xor
unfoldable pub folded : ℕ → ℕ → ℕ
folded a b = bit_xor (bit_and (a * b) (2 ^ 64 - 1)) (a * b / 2 ^ 64)

-- the hasher with a word taken in
unfoldable pub mixed : NodeHasher → ℕ → NodeHasher
mixed hasher word = record {
  state = folded (bit_xor hasher.state word) hasher.multiplier;
  multiplier = hasher.multiplier;
}

-- the hasher with a word of fewer than eight bytes taken in, and how many they are
unfoldable pub mixed_part : NodeHasher → ℕ → ℕ → NodeHasher
mixed_part hasher word count = record {
  state = ((mixed hasher word).state + count) % 2 ^ 64;
  multiplier = hasher.multiplier;
}

-- the eight bytes from a place on as one word, the first the lowest; one that is not there is 0
abbrev pub word_of : List ℕ → ℕ → ℕ
word_of bytes at = from_le_bytes w64 (drop at bytes)

-- the hasher with the first n words taken in
unfoldable pub mixed_words : NodeHasher → List ℕ → ℕ → NodeHasher
mixed_words hasher bytes zero = hasher
mixed_words hasher bytes (suc n) = mixed (mixed_words hasher bytes n) (word_of bytes (8 * n))

-- the hasher after `write(bytes)`: the words of eight bytes, and the bytes that are left
unfoldable pub write : NodeHasher → List ℕ → NodeHasher
write hasher bytes =
    let whole = length bytes / 8 in
    let left = length bytes % 8 in
    let most = mixed_words hasher bytes whole in
    if left == 0 then most else mixed_part most (word_of bytes (8 * whole)) left

-- what `finish` returns
abbrev pub finish : NodeHasher → ℕ
finish hasher = hasher.state
