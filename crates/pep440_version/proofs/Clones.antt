-- Clones of local segments are the same segments.
use Rattle.std.proofs.Common.{◌≡◌, List, [], ◌∷◌, map, refl, Result, IfOk, arith}
use Rattle.std.specs.List.{AllZip}
use Rattle.std.specs.Result.{MatchResult}
use Rattle.pep440_version.specs.declared.version.LocalSegment.{LocalSegment}
use Rattle.pep440_version.specs.contracts.version.LocalSegmentClone.TheImpl as cloned
use Rattle.pep440_version.specs.View.{segment_of}

segment_of-clone : (a b : LocalSegment) → (cloned.is_clone-value).it a b → segment_of b ≡ segment_of a
segment_of-clone a b h1 = grind arith

pub map-clones : (xs ys : List LocalSegment) → AllZip (cloned.is_clone-value).it xs ys → map segment_of ys ≡ map segment_of xs
map-clones [] [] h = refl
map-clones [] (y ∷ ys) h = absurd h
map-clones (x ∷ xs) [] h = absurd h
map-clones (x ∷ xs) (y ∷ ys) h = λ i. segment_of-clone x y h.0 i ∷ map-clones xs ys h.1 i

-- a weaker fact of the same result
pub IfOk-from_match : {T E : Type 0} (P : T → Type 0) (R : E → Type 0) (Q : T → Type 0) → ((x : T) → P x → Q x) → (r : Result T E) → MatchResult r P R → IfOk r Q
IfOk-from_match P R Q h1 r h2 = grind arith
