-- The order of versions (PEP 440, "Summary of permitted suffixes and relative ordering").
use Rattle.std.specs.Prelude.{◌≡◌, ◌==◌, ℕ, if◌then◌else◌, length, max, take, List, [], ◌∷◌, Option, None, Some}
use Rattle.std.specs.Ordering.{nat_cmp, on, ordering_then, then_cmp}
use Rattle.std.specs.Option.{option_cmp}
use Rattle.std.specs.declared.cmp.Ordering.{Ordering}
use Rattle.std.specs.declared.cmp.Ordering.TheVariants.{Less, Equal, Greater}
use Rattle.std.specs.Cmp.Lexicographic.{slice_cmp}
use Rattle.pep440_version.specs.declared.version.Prerelease.{Prerelease}
use Rattle.pep440_version.specs.declared.version.PrereleaseKind.{PrereleaseKind}
use Rattle.pep440_version.specs.declared.version.PrereleaseKind.TheVariants.{Alpha, Beta, Rc}
use Rattle.pep440_version.specs.Parts.{Parts, Segment, word, number}

-- the order of two releases, the shorter padded with zeros
unfoldable pub padded_cmp : List ℕ → List ℕ → Ordering
padded_cmp [] [] = Equal
padded_cmp [] (y ∷ ys) = ordering_then (nat_cmp 0 y) (padded_cmp [] ys)
padded_cmp (x ∷ xs) [] = ordering_then (nat_cmp x 0) (padded_cmp xs [])
padded_cmp (x ∷ xs) (y ∷ ys) = ordering_then (nat_cmp x y) (padded_cmp xs ys)

-- a number before the significant ones
abbrev pub keep : ℕ → List ℕ → List ℕ
keep x [] = if x == 0 then [] else x ∷ []
keep x (y ∷ ys) = x ∷ y ∷ ys

-- a release without the zeros at its end
unfoldable pub significant : List ℕ → List ℕ
significant [] = []
significant (x ∷ xs) = keep x (significant xs)

-- a release without the zeros at its end, down to one number
abbrev pub trimmed : List ℕ → List ℕ
trimmed release = take (max 1 (length (significant release))) release

-- `a` comes before `b`, and that before `rc`
abbrev pub kind_rank : PrereleaseKind → ℕ
kind_rank Alpha = 1
kind_rank Beta = 2
kind_rank Rc = 3

-- a rank, and then a number
abbrev pub ranked_cmp : ℕ × ℕ → ℕ × ℕ → Ordering
ranked_cmp = then_cmp (on (λ (k : ℕ × ℕ). k.0) nat_cmp) (on (λ (k : ℕ × ℕ). k.1) nat_cmp)

-- a dev release without pre and post comes before each pre-release, and that before none
abbrev pub pre_key_of : Option Prerelease → Option ℕ → Option ℕ → ℕ × ℕ
pre_key_of (Some p) post dev = (kind_rank p.kind, p.number)
pre_key_of None None (Some d) = (0, 0)
pre_key_of None None None = (4, 0)
pre_key_of None (Some q) dev = (4, 0)

abbrev pub pre_key : Parts → ℕ × ℕ
pre_key v = pre_key_of v.pre v.post v.dev

-- a dev release comes before none
abbrev pub dev_key_of : Option ℕ → ℕ × ℕ
dev_key_of (Some n) = (0, n)
dev_key_of None = (1, 0)

abbrev pub dev_key : Parts → ℕ × ℕ
dev_key v = dev_key_of v.dev

-- texts come before numbers
abbrev pub segment_cmp : Segment → Segment → Ordering
segment_cmp (word a) (word b) = slice_cmp nat_cmp a b
segment_cmp (word a) (number n) = Less
segment_cmp (number m) (word b) = Greater
segment_cmp (number m) (number n) = nat_cmp m n

-- the order of versions
abbrev pub version_cmp : Parts → Parts → Ordering
version_cmp =
    then_cmp (on (λ (v : Parts). v.epoch) nat_cmp)
    (then_cmp (on (λ (v : Parts). v.release) padded_cmp)
    (then_cmp (on pre_key ranked_cmp)
    (then_cmp (on (λ (v : Parts). v.post) (option_cmp nat_cmp))
    (then_cmp (on dev_key ranked_cmp)
    (on (λ (v : Parts). v.locals) (slice_cmp segment_cmp))))))

-- the same version: the same release except for zeros at its end, and the same other parts
pub record IsSameVersion (v w : Parts) : Type 0 where
  pub release : padded_cmp v.release w.release ≡ Equal
  pub pre : v.pre ≡ w.pre
  pub post : v.post ≡ w.post
  pub dev : v.dev ≡ w.dev
  pub epoch : v.epoch ≡ w.epoch
  pub locals : v.locals ≡ w.locals

-- the same version, its release without the zeros at its end
abbrev pub trimmed_parts : Parts → Parts
trimmed_parts v = record v { release = trimmed v.release }
