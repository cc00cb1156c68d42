-- The derived order and hash of local segments are those of their values.
use Rattle.std.proofs.Common.{◌≡◌, ◌++◌, List, [], ◌∷◌, map, length, refl, arith}
use Rattle.std.specs.List.{flat_map}
use Rattle.std.specs.Ordering.{ordering_then}
use Rattle.std.specs.Cmp.Lexicographic.{slice_cmp}
use Rattle.std.specs.Hash as fed
use Rattle.pep440_version.specs.declared.version.LocalSegment.{LocalSegment}
use Rattle.pep440_version.specs.contracts.version.LocalSegmentOrd.TheImpl as derived
use Rattle.pep440_version.specs.contracts.version.LocalSegmentHash.TheImpl as hashed
use Rattle.std.proofs.lemmas.List.{length-map}
use Rattle.pep440_version.specs.Order.{segment_cmp}
use Rattle.pep440_version.specs.HashInput.{segment_writes}
use Rattle.pep440_version.specs.View.{segment_of}

pub derived_cmp-segment_cmp : (a b : LocalSegment) → (derived.cmp-value).it a b ≡ segment_cmp (segment_of a) (segment_of b)
derived_cmp-segment_cmp a b = grind arith

pub slice_cmp-segments : (xs ys : List LocalSegment) → slice_cmp (derived.cmp-value).it xs ys ≡ slice_cmp segment_cmp (map segment_of xs) (map segment_of ys)
slice_cmp-segments [] [] = refl
slice_cmp-segments [] (y ∷ ys) = refl
slice_cmp-segments (x ∷ xs) [] = refl
slice_cmp-segments (x ∷ xs) (y ∷ ys) = λ i. ordering_then (derived_cmp-segment_cmp x y i) (slice_cmp-segments xs ys i)

pub derived_writes-segment_writes : (a : LocalSegment) → (hashed.hash_input-value).it a ≡ segment_writes (segment_of a)
derived_writes-segment_writes a = grind arith

flat_map-segments : (xs : List LocalSegment) → flat_map (hashed.hash_input-value).it xs ≡ flat_map segment_writes (map segment_of xs)
flat_map-segments [] = refl
flat_map-segments (x ∷ xs) = λ i. derived_writes-segment_writes x i ++ flat_map-segments xs i

pub slice-segments : (xs : List LocalSegment) → fed.slice (hashed.hash_input-value).it xs ≡ fed.slice segment_writes (map segment_of xs)
slice-segments xs = rw length-map (λ i. fed.usize (length xs) ++ flat_map-segments xs i)
