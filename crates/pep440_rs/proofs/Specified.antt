-- The specifiers of a range of releases have the points of the range.
use Rattle.std.proofs.Common.{◌≡◌, ◌&&◌, ◌+◌, ◌++◌, Bool, true, ℕ, List, [], ◌∷◌, Option, Some, None, if◌then◌else◌, refl, sym, ap, ◌∙◌, subst, arith}
use Rattle.std.proofs.lemmas.List.Folds.{list_all-append}
use Rattle.std.specs.Borrow.{Bor}
use Rattle.std.specs.Cmp.{Equal-is, nat_cmp_total, tied_itself}
use Rattle.std.specs.Ordering.{eq_by_cmp, ordering_then}
use Rattle.std.specs.Range.Bound.{bound_map}
use Rattle.std.specs.declared.cmp.Ordering.{Ordering}
use Rattle.std.specs.declared.cmp.Ordering.TheVariants.{Equal}
use Rattle.std.specs.declared.ops.Bound.{Bound}
use Rattle.std.specs.declared.ops.Bound.TheVariants.{Included, Excluded, Unbounded}
use Rattle.version_ranges.specs.Point.{Point, is_from, is_in_bounds, is_until}
use Rattle.pep440_version.specs.Order.{padded_cmp, version_cmp}
use Rattle.pep440_version.specs.OrderLaws.{padded_total, version_total}
use Rattle.pep440_version.specs.Parts.{Parts, release_only}
use Rattle.pep440_specifier.specs.Alone.{is_empty}
use Rattle.pep440_specifier.specs.Bounds.{bound_specifiers, bounding, lower_terms, minor_of, next_minor, single_term, specifier_of_parts, star_between, star_term, terms_of, two_numbers, upper_terms}
use Rattle.pep440_specifier.specs.Specifier.{Specifier}
use Rattle.pep440_specifier.specs.declared.operator.Operator.TheVariants as operator
use Rattle.pep440_rs.specs.Bounds.{is_in_all, is_within, IsAtRelease, IsRelease}
use Rattle.pep440_rs.specs.Intervals.{is_in}
use Rattle.pep440_rs.proofs.Between.{between-same}
use Rattle.pep440_rs.proofs.Complements.{from_bottom}

pub some-alike : {A : Type 0} (x y : A) → Some x ≡ Some y → x ≡ y
some-alike x y e = cc e

-- a value that exists only if a test is true
pub if-some : {A : Type 0} (b : Bool) (o : Option A) (y : A) → (if b then o else None) ≡ Some y → (b ≡ true) × (o ≡ Some y)
if-some b o y h1 = grind arith

and-true : (b : Bool) → (b && true) ≡ b
and-true b = grind arith

and-true-twice : (b : Bool) → ((b && true) && true) ≡ b
and-true-twice b = grind arith

and-alike : {a b c d : Bool} → a ≡ c → b ≡ d → (a && b) ≡ (c && d)
and-alike e f = λ i. e i && f i

true-and : (a b : Bool) → a ≡ true → ((a && b) && true) ≡ b
true-and a b h1 = grind arith

-- dropping the local part leaves the release
release-of : (b : Bool) (v w : Parts) → w.release ≡ v.release → (if b then v else w).release ≡ v.release
release-of b v w h1 = grind arith

-- the version of a half line's specifier
abbrev bounding_release : Parts → Parts
bounding_release v = release_only (bounding v).release

bounding-same : (v : Parts) → IsRelease v → bounding_release v ≡ v
bounding-same v e = ap release_only (release-of (is_empty v.locals) v (release_only v.release) refl) ∙ sym e

-- `M.m` is equal to the version of which it is the two numbers
two-tied : (r : List ℕ) (m : ℕ × ℕ) → two_numbers r ≡ Some m → padded_cmp (m.0 ∷ m.1 ∷ []) r ≡ Equal
unfolding padded_cmp
two-tied [] m e = cc e
two-tied (major ∷ []) m e =
    subst (λ (k : ℕ × ℕ). padded_cmp (k.0 ∷ k.1 ∷ []) (major ∷ []) ≡ Equal) (some-alike (major, 0) m e)
    (ap (λ (o : Ordering). ordering_then o Equal) (tied_itself nat_cmp_total major))
two-tied (major ∷ minor ∷ []) m e =
    subst (λ (k : ℕ × ℕ). padded_cmp (k.0 ∷ k.1 ∷ []) (major ∷ minor ∷ []) ≡ Equal) (some-alike (major, minor) m e) (tied_itself padded_total (major ∷ minor ∷ []))
two-tied (major ∷ minor ∷ micro ∷ others) m e = cc e

minor-tied : (v : Parts) (m : ℕ × ℕ) → IsRelease v → minor_of v ≡ Some m → version_cmp (release_only (m.0 ∷ m.1 ∷ [])) v ≡ Equal
minor-tied v m h1 h2 = grind (arith, if-some, two-tied)

-- the two versions of a star are `M.m` and `M.(m+1)`
pub next-of : (a b : Option (ℕ × ℕ)) (m : ℕ × ℕ) → next_minor a b ≡ Some m → (a ≡ Some m) × (b ≡ Some (m.0, m.1 + 1))
next-of a b m h1 = grind arith

pub star-of : (o : Option (ℕ × ℕ)) (s : Specifier) → star_term o ≡ Some s
    → (m : ℕ × ℕ) × (o ≡ Some m) × (specifier_of_parts operator.EqualStar (release_only (m.0 ∷ m.1 ∷ [])) ≡ s)
star-of o s h1 = grind arith

module _ (p : Point Parts) where
  lower-means : (a : Bound (Bor Parts)) → IsAtRelease a → is_in_all (lower_terms a) p ≡ is_from version_cmp (bound_map (λ v. v.now) a) p
  lower-means a h1 = grind (arith, and-true-twice, bounding-same, from_bottom)

  upper-means : (a : Bound (Bor Parts)) → IsAtRelease a → is_in_all (upper_terms a) p ≡ is_until version_cmp (bound_map (λ v. v.now) a) p
  upper-means a h1 = grind (arith, true-and, from_bottom, bounding-same)

  -- one specifier for each bound
  each-means : (lower upper : Bound (Bor Parts)) → IsAtRelease lower → IsAtRelease upper → is_in_all (lower_terms lower ++ upper_terms upper) p ≡ is_within lower upper p
  each-means lower upper h1 h2 = grind (arith, list_all-append, and-alike, lower-means, upper-means)

  -- `==` for two bounds that tie
  equal-means : (v w : Parts) → IsRelease v → version_cmp v w ≡ Equal → is_in operator.Equal v.release p ≡ is_in_bounds version_cmp (Included v) (Included w) p
  equal-means v w e tie =
      let own : version_cmp (release_only v.release) v ≡ Equal = subst (λ (u : Parts). version_cmp u v ≡ Equal) e (tied_itself version_total v) in
      let other : version_cmp (release_only v.release) w ≡ Equal = subst (λ (u : Parts). version_cmp u w ≡ Equal) e tie in
      between-same (Included (release_only v.release)) (Included (release_only v.release)) (Included v) (Included w) p own other

  -- a star from `M.m` up to `M.(m+1)`
  star-means : (v w : Parts) (m : ℕ × ℕ) → IsRelease v → IsRelease w → star_between v w ≡ Some m
      → is_in operator.EqualStar (m.0 ∷ m.1 ∷ []) p ≡ is_in_bounds version_cmp (Included v) (Excluded w) p
  star-means v w m e f h =
      let numbers = next-of (minor_of v) (minor_of w) m h in
      between-same (Included (release_only (m.0 ∷ m.1 ∷ []))) (Excluded (release_only (m.0 ∷ (m.1 + 1) ∷ []))) (Included v) (Excluded w) p
      (minor-tied v m e numbers.0) (minor-tied w (m.0, m.1 + 1) f numbers.1)

  -- the one specifier, if there is one
  single-means : (lower upper : Bound (Bor Parts)) (s : Specifier) → IsAtRelease lower → IsAtRelease upper → single_term lower upper ≡ Some s
      → (is_in s.operator s.version.release p && true) ≡ is_within lower upper p
  single-means (Included v) (Included w) s e f h =
      let tie = if-some (eq_by_cmp version_cmp v.now w.now) (Some (specifier_of_parts operator.Equal v.now)) s h in
      subst (λ (t : Specifier). (is_in t.operator t.version.release p && true) ≡ is_in_bounds version_cmp (Included v.now) (Included w.now) p)
      (some-alike (specifier_of_parts operator.Equal v.now) s tie.1) (and-true (is_in operator.Equal v.now.release p) ∙ equal-means v.now w.now e ((Equal-is (version_cmp v.now w.now)).0 tie.0))
  single-means (Included v) (Excluded w) s e f h =
      let star = star-of (star_between v.now w.now) s h in
      subst (λ (t : Specifier). (is_in t.operator t.version.release p && true) ≡ is_in_bounds version_cmp (Included v.now) (Excluded w.now) p)
      star.2 (and-true (is_in operator.EqualStar (star.0.0 ∷ star.0.1 ∷ []) p) ∙ star-means v.now w.now star.0 e f star.1)
  single-means (Included v) Unbounded s e f h = cc h
  single-means (Excluded v) upper s e f h = cc h
  single-means Unbounded upper s e f h = cc h

  terms-mean : (o : Option Specifier) (lower upper : Bound (Bor Parts)) (b : Bool)
      → ((s : Specifier) → o ≡ Some s → (is_in s.operator s.version.release p && true) ≡ b) → is_in_all (lower_terms lower ++ upper_terms upper) p ≡ b
      → is_in_all (terms_of o lower upper) p ≡ b
  terms-mean o lower upper b h1 h2 = grind arith

  pub specifiers-mean : (lower upper : Bound (Bor Parts)) → IsAtRelease lower → IsAtRelease upper → is_in_all (bound_specifiers lower upper) p ≡ is_within lower upper p
  specifiers-mean lower upper l u =
      terms-mean (single_term lower upper) lower upper (is_within lower upper p) (λ s. single-means lower upper s l u) (each-means lower upper l u)
