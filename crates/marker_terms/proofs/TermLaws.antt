-- Comparisons of versions that say the same, or the opposite.
use Rattle.std.proofs.Common.{◌≡◌, ◌<◌, ℕ, Bool, true, not, List, length, Some, sym, ap, ◌∙◌, arith}
use Rattle.std.specs.Ordering.{eq_by_cmp, nat_cmp, ordering_then}
use Rattle.std.specs.Cmp.{Equal-is, nat_cmp_total, tied_itself}
use Rattle.std.specs.declared.cmp.Ordering.TheVariants.{Equal}
use Rattle.version_ranges.specs.Point.{Point}
use Rattle.pep440_version.specs.Order.{version_cmp}
use Rattle.pep440_version.specs.Parts.{Parts}
use Rattle.pep440_specifier.specs.declared.operator.Operator.{Operator}
use Rattle.pep440_specifier.specs.declared.operator.Operator.TheVariants as operators
use Rattle.pep440_specifier.specs.Operator.{is_star, negated, rank}
use Rattle.pep440_specifier.specs.Order.{counted_of, specifier_cmp}
use Rattle.pep440_specifier.specs.Specifier.{Specifier}
use Rattle.pep440_rs.specs.Intervals.{is_in}
use Rattle.pep440_rs.specs.PythonVersion.{python_is_in}
use Rattle.marker_words.specs.declared.key.MarkerValueVersion.{MarkerValueVersion}
use Rattle.marker_words.specs.declared.key.MarkerValueVersion.TheVariants.{ImplementationVersion, PythonFullVersion, PythonVersion}
use Rattle.marker_parts.specs.Expression.{holds_version}

-- what the laws of versions say of equal specifiers
abbrev pub EqualReleases : Type 0
EqualReleases = (s t : Specifier) → specifier_cmp s t ≡ Equal → (p : Point Parts) → is_in s.operator s.version.release p ≡ is_in t.operator t.version.release p

abbrev pub EqualPythons : Type 0
EqualPythons = (s t : Specifier) → specifier_cmp s t ≡ Equal → 0 < length s.version.release → 0 < length t.version.release → (p : Point Parts)
    → python_is_in s.operator s.version.release p ≡ python_is_in t.operator t.version.release p

-- and of negated operators
abbrev pub NegatedReleases : Type 0
NegatedReleases = (o n : Operator) (r : List ℕ) (p : Point Parts) → negated o ≡ Some n → is_in n r p ≡ not (is_in o r p)

abbrev pub NegatedPythons : Type 0
NegatedPythons = (o n : Operator) (r : List ℕ) (p : Point Parts) → negated o ≡ Some n → python_is_in n r p ≡ not (python_is_in o r p)

module _ (s t : Specifier) (some : 0 < length s.version.release) (other : 0 < length t.version.release) (releases : EqualReleases) (pythons : EqualPythons) where
  -- equal specifiers have the same set
  pub equal_hold : eq_by_cmp specifier_cmp s t ≡ true → (key : MarkerValueVersion) (p : Point Parts) → holds_version key s p ≡ holds_version key t p
  equal_hold e ImplementationVersion p = releases s t ((Equal-is (specifier_cmp s t)).0 e) p
  equal_hold e PythonFullVersion p = releases s t ((Equal-is (specifier_cmp s t)).0 e) p
  equal_hold e PythonVersion p = pythons s t ((Equal-is (specifier_cmp s t)).0 e) some other p

not_not : (a b : Bool) → a ≡ not b → b ≡ not a
not_not a b h1 = grind arith

-- the number of release numbers counts for the operator of a negation if it does for the operator
counted_alike : (o n : Operator) (k l : ℕ) → negated o ≡ Some n → (is_star o ≡ true → k ≡ l) → counted_of n k ≡ counted_of n l
counted_alike o n k l h1 h2 = grind arith

module _ (s t : Specifier) (some : 0 < length s.version.release) (other : 0 < length t.version.release) (releases : EqualReleases) (pythons : EqualPythons)
    (negated_releases : NegatedReleases) (negated_pythons : NegatedPythons) (n : negated s.operator ≡ Some t.operator) (e : eq_by_cmp version_cmp s.version t.version ≡ true)
    (h : is_star s.operator ≡ true → length s.version.release ≡ length t.version.release) where
  -- the negated operator with the version of the first specifier is as good as the second
  middle : Specifier
  middle = record { operator = t.operator; version = s.version }

  ties : specifier_cmp middle t ≡ Equal
  unfolding middle
  ties =
      ap (λ r. ordering_then r (ordering_then (version_cmp s.version t.version) (nat_cmp (counted_of t.operator (length s.version.release)) (counted_of t.operator (length t.version.release))))) (tied_itself nat_cmp_total (rank t.operator))
      ∙ ap (λ r. ordering_then r (nat_cmp (counted_of t.operator (length s.version.release)) (counted_of t.operator (length t.version.release)))) ((Equal-is (version_cmp s.version t.version)).0 e)
      ∙ ap (λ k. nat_cmp k (counted_of t.operator (length t.version.release))) (counted_alike s.operator t.operator (length s.version.release) (length t.version.release) n h)
      ∙ tied_itself nat_cmp_total (counted_of t.operator (length t.version.release))

  pub negated_hold : (key : MarkerValueVersion) (p : Point Parts) → holds_version key s p ≡ not (holds_version key t p)
  unfolding middle
  negated_hold ImplementationVersion p = not_not _ _ (sym (releases middle t ties p) ∙ negated_releases s.operator t.operator s.version.release p n)
  negated_hold PythonFullVersion p = not_not _ _ (sym (releases middle t ties p) ∙ negated_releases s.operator t.operator s.version.release p n)
  negated_hold PythonVersion p = not_not _ _ (sym (pythons middle t ties some other p) ∙ negated_pythons s.operator t.operator s.version.release p n)
