-- Specifiers that are equal in the order have one set, and versions that are equal to a release are
-- releases.
use Rattle.std.proofs.Common.{◌≡◌, ◌↔◌, not, ℕ, ◌<◌, true, List, [], ◌∷◌, length, refl, sym, ap, ◌∙◌, arith}
use Rattle.std.specs.FinMap.{nat_cmp-IsAntisymmetric}
use Rattle.std.specs.Ordering.{nat_cmp, ordering_then}
use Rattle.std.specs.declared.cmp.Ordering.{Ordering}
use Rattle.std.specs.declared.cmp.Ordering.TheVariants.{Equal}
use Rattle.std.specs.declared.ops.Bound.TheVariants.{Included, Excluded, Unbounded}
use Rattle.version_ranges.specs.Point.{Point}
use Rattle.pep440_version.specs.Order.{padded_cmp, trimmed, version_cmp}
use Rattle.pep440_version.specs.OrderLaws.{same-tied, tied-same}
use Rattle.pep440_version.specs.Parts.{Parts, release_only}
use Rattle.pep440_specifier.specs.Order.{counted_of, specifier_cmp}
use Rattle.pep440_specifier.specs.Specifier.{Specifier}
use Rattle.pep440_specifier.specs.declared.operator.Operator.{Operator}
use Rattle.pep440_specifier.specs.declared.operator.Operator.TheVariants as operator
use Rattle.pep440_specifier.proofs.Ties.{tied_same}
use Rattle.pep440_rs.specs.Bounds.{IsRelease, is_release}
use Rattle.pep440_rs.specs.Intervals.{is_in}
use Rattle.pep440_rs.specs.PythonVersion.{python_is_in}
use Rattle.pep440_rs.proofs.Alike.{tied-trimmed}
use Rattle.pep440_rs.proofs.Between.{between-same}

-- ---- releases

first_tie : (r s : Ordering) → ordering_then r s ≡ Equal → r ≡ Equal
first_tie r s h1 = grind arith

second_tie : (r s : Ordering) → ordering_then r s ≡ Equal → s ≡ Equal
second_tie r s h1 = grind arith

-- releases that tie and have as many numbers are the same
same-releases : (xs ys : List ℕ) → padded_cmp xs ys ≡ Equal → length xs ≡ length ys → xs ≡ ys
unfolding padded_cmp
same-releases [] [] e f = refl
same-releases [] (y ∷ ys) e f = absurd (omega arith)
same-releases (x ∷ xs) [] e f = absurd (omega arith)
same-releases (x ∷ xs) (y ∷ ys) e f =
    let one : x ≡ y = nat_cmp-IsAntisymmetric x y (first_tie (nat_cmp x y) (padded_cmp xs ys) e) in
    let others : xs ≡ ys = same-releases xs ys (second_tie (nat_cmp x y) (padded_cmp xs ys) e) (omega arith) in
    λ i. one i ∷ others i

release-tied : (xs ys : List ℕ) → padded_cmp xs ys ≡ Equal → version_cmp (release_only xs) (release_only ys) ≡ Equal
release-tied xs ys e = same-tied (release_only xs) (release_only ys) (record { release = e; pre = refl; post = refl; dev = refl; epoch = refl; locals = refl })

-- ---- sets of releases that tie

module _ (r u : List ℕ) (tie : padded_cmp r u ≡ Equal) (p : Point Parts) where
  at_tie : version_cmp (release_only r) (release_only u) ≡ Equal
  at_tie = release-tied r u tie

  by_numbers : (o : Operator) → length r ≡ length u → is_in o r p ≡ is_in o u p
  by_numbers o e = ap (λ (x : List ℕ). is_in o x p) (same-releases r u tie e)

  same_in : (o : Operator) → counted_of o (length r) ≡ counted_of o (length u) → is_in o r p ≡ is_in o u p
  same_in operator.Equal e = between-same (Included (release_only r)) (Included (release_only r)) (Included (release_only u)) (Included (release_only u)) p at_tie at_tie
  same_in operator.ExactEqual e = between-same (Included (release_only r)) (Included (release_only r)) (Included (release_only u)) (Included (release_only u)) p at_tie at_tie
  same_in operator.NotEqual e = ap not (between-same (Included (release_only r)) (Included (release_only r)) (Included (release_only u)) (Included (release_only u)) p at_tie at_tie)
  same_in operator.LessThan e = between-same Unbounded (Excluded (release_only r)) Unbounded (Excluded (release_only u)) p tt at_tie
  same_in operator.LessThanEqual e = between-same Unbounded (Included (release_only r)) Unbounded (Included (release_only u)) p tt at_tie
  same_in operator.GreaterThan e = between-same (Excluded (release_only r)) Unbounded (Excluded (release_only u)) Unbounded p at_tie tt
  same_in operator.GreaterThanEqual e = between-same (Included (release_only r)) Unbounded (Included (release_only u)) Unbounded p at_tie tt
  same_in operator.TildeEqual e = by_numbers operator.TildeEqual e
  same_in operator.EqualStar e = by_numbers operator.EqualStar e
  same_in operator.NotEqualStar e = by_numbers operator.NotEqualStar e

  module _ (some : 0 < length r) (more : 0 < length u) where
    same_trimmed : trimmed r ≡ trimmed u
    same_trimmed = tied-trimmed r u some more tie

    python_by_numbers : (o : Operator) → length r ≡ length u → python_is_in o r p ≡ python_is_in o u p
    python_by_numbers o e = ap (λ (x : List ℕ). python_is_in o x p) (same-releases r u tie e)

    same_python : (o : Operator) → counted_of o (length r) ≡ counted_of o (length u) → python_is_in o r p ≡ python_is_in o u p
    same_python o h1 = grind (arith, same_trimmed, not, python_by_numbers)

module _ (s t : Specifier) (tie : specifier_cmp s t ≡ Equal) where
  counted-same : counted_of s.operator (length s.version.release) ≡ counted_of s.operator (length t.version.release)
  counted-same = grind (arith, tied_same, length)

  pub specifiers_same : (p : Point Parts) → is_in s.operator s.version.release p ≡ is_in t.operator t.version.release p
  specifiers_same p = grind (arith, tied_same, same_in, counted-same)

  pub comparisons_same : 0 < length s.version.release → 0 < length t.version.release → (p : Point Parts)
      → python_is_in s.operator s.version.release p ≡ python_is_in t.operator t.version.release p
  comparisons_same h1 h2 p = grind (arith, tied_same, same_python, counted-same)

-- ---- versions that tie with a release

pub tied-release : (v w : Parts) → version_cmp v w ≡ Equal → IsRelease v → IsRelease w
tied-release v w tie e =
    let same = tied-same v w tie in
    let epoch = sym same.epoch ∙ ap (λ (u : Parts). u.epoch) e in
    let pre = sym same.pre ∙ ap (λ (u : Parts). u.pre) e in
    let post = sym same.post ∙ ap (λ (u : Parts). u.post) e in
    let dev = sym same.dev ∙ ap (λ (u : Parts). u.dev) e in
    let locals = sym same.locals ∙ ap (λ (u : Parts). u.locals) e in
    λ i. record { epoch = epoch i; release = w.release; pre = pre i; post = post i; dev = dev i; locals = locals i }

pub release-means : (v : Parts) → (is_release v ≡ true) ↔ IsRelease v
release-means v = grind arith
