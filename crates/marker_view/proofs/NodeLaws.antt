-- The points at which a formula of plain comparisons of versions may change, and so those of the
-- node of its residue.
use Rattle.std.proofs.Common.{◌≡◌, ◌≢◌, ◌&&◌, ◌||◌, ℕ, Bool, false, List, [], ◌∷◌, ◌++◌, cond, sym, ap, ◌∙◌, arith}
use Rattle.std.specs.List.{AllByRecursion}
use Rattle.std.specs.Ordering.{is_eq, is_lt, ordering_then}
use Rattle.std.specs.declared.cmp.Ordering.{Ordering}
use Rattle.std.specs.declared.cmp.Ordering.TheVariants.{Less, Equal, Greater}
use Rattle.std.proofs.lemmas.Bool.{true≢false}
use Rattle.version_ranges.specs.declared.cut.Cut.{Cut}
use Rattle.version_ranges.specs.Alike.{AreAlike, TiesWithNone}
use Rattle.version_ranges.specs.Cut.{cut_point}
use Rattle.version_ranges.specs.Point.{Point, at, above, point_cmp}
use Rattle.pep440_version.specs.Order.{version_cmp}
use Rattle.pep440_version.specs.Parts.{Parts}
use Rattle.pep440_rs.specs.Bounds.{is_release}
use Rattle.pep440_rs.specs.Ends.{IsReleasePoint}
use Rattle.pep440_rs.proofs.Equals.{release-means, tied-release}
use Rattle.marker_words.specs.declared.key.MarkerValueString.{MarkerValueString}
use Rattle.marker_words.specs.declared.operator.MarkerOperator.{MarkerOperator}
use Rattle.marker_words.specs.declared.operator.ExtraOperator.TheVariants as extra_operators
use Rattle.marker_environment.specs.Valuation.{Valuation}
use Rattle.marker_parts.specs.Expression.{Test, version, version_in, text, extra, holds, holds_text}
use Rattle.marker_grammar.specs.Formula.{Formula, test, both, either, truth_of}
use Rattle.marker_nodes.specs.Node.{lowest}
use Rattle.marker_nodes.specs.Variable.{Variable, variable_cmp, mix}
use Rattle.marker_view.specs.Readable.{AllPlain, IsPlainTest}
use Rattle.marker_view.proofs.Asked.{asked, mixed}
use Rattle.marker_view.proofs.VersionEnds.{specifier_ends, list_ends, specifier_releases, list_releases, specifier_alike, list_alike}

abbrev pub test_ends : Test → List (Point Parts)
test_ends (version key s) = specifier_ends key s
test_ends (version_in key versions negated) = list_ends key versions
test_ends (text key operator t) = []
test_ends (extra operator x) = []

abbrev pub formula_ends : Formula → List (Point Parts)
formula_ends (test t) = test_ends t
formula_ends (both f g) = formula_ends f ++ formula_ends g
formula_ends (either f g) = formula_ends f ++ formula_ends g

-- ---- these are releases, with which no other version ties

test_releases : (t : Test) → IsPlainTest t → AllByRecursion IsReleasePoint (test_ends t)
test_releases t h1 = grind (arith, specifier_releases, list_releases)

joined : (xs ys : List (Point Parts)) → AllByRecursion IsReleasePoint xs → AllByRecursion IsReleasePoint ys → AllByRecursion IsReleasePoint (xs ++ ys)
joined [] ys a b = b
joined (x ∷ xs) ys a b = (a.0, joined xs ys a.1 b)

pub formula_releases : (g : Formula) → AllPlain g → AllByRecursion IsReleasePoint (formula_ends g)
formula_releases (test t) h = test_releases t h
formula_releases (both f g) h = joined (formula_ends f) (formula_ends g) (formula_releases f h.0) (formula_releases g h.1)
formula_releases (either f g) h = joined (formula_ends f) (formula_ends g) (formula_releases f h.0) (formula_releases g h.1)

never_less : (r : Ordering) → ordering_then r Less ≢ Equal
never_less r = grind arith

never_greater : (r : Ordering) → ordering_then r Greater ≢ Equal
never_greater r = grind arith

module _ (w : Parts) (none : is_release w ≡ false) where
  untied : (v : Parts) → IsReleasePoint (at v) → version_cmp v w ≢ Equal
  untied v r = λ e. true≢false (sym ((release-means w).1 (tied-release v w e r)) ∙ none)

  at_untied : (end : Point Parts) → IsReleasePoint end → point_cmp version_cmp end (at w) ≢ Equal
  at_untied end h1 = grind (arith, untied, never_greater)

  above_untied : (end : Point Parts) → IsReleasePoint end → point_cmp version_cmp end (above w) ≢ Equal
  above_untied end h1 = grind (arith, never_less, untied)

  point_untied : (b : Bool) (end : Point Parts) → IsReleasePoint end → point_cmp version_cmp end (cond b (above w) (at w)) ≢ Equal
  point_untied b end h1 = grind (arith, above_untied, at_untied)

none_ties : (c : Cut Parts) → is_release c.value ≡ false → (ends : List (Point Parts)) → AllByRecursion IsReleasePoint ends → TiesWithNone version_cmp (cut_point (λ v. v) c) ends
none_ties c e [] a = tt
none_ties c e (x ∷ ends) a = (point_untied c.value e c.above x a.0, none_ties c e ends a.1)

pub cut_ties_with_none : (g : Formula) → AllPlain g → (c : Cut Parts) → is_release c.value ≡ false → TiesWithNone version_cmp (cut_point (λ v. v) c) (formula_ends g)
cut_ties_with_none g h c e = none_ties c e (formula_ends g) (formula_releases g h)

-- ---- the formula is the same at points with the same order to them

-- each version variable at one point
abbrev pub everywhere : Point Parts → Valuation
everywhere p = record lowest { version = λ x. p }

alike_parts : (p q : Point Parts) (xs ys : List (Point Parts)) → AreAlike version_cmp p q (xs ++ ys) → AreAlike version_cmp p q xs × AreAlike version_cmp p q ys
alike_parts p q [] ys a = (tt, a)
alike_parts p q (x ∷ xs) ys a = let r = alike_parts p q xs ys a.1 in ((a.0, r.0), r.1)

module _ (p q : Point Parts) where
  text_same : (operator : MarkerOperator) (key : MarkerValueString) (t : List ℕ) → holds_text operator key t (everywhere p) ≡ holds_text operator key t (everywhere q)
  text_same operator key t = grind arith

  test_alike : (t : Test) → AreAlike version_cmp p q (test_ends t) → holds t (everywhere p) ≡ holds t (everywhere q)
  test_alike t h1 = grind (arith, specifier_alike, list_alike, text_same)

  module _ (x y : Variable) (held w : Valuation) where
    abbrev pub held_with : Point Parts → Valuation
    held_with r = mix (λ z. is_lt (variable_cmp z y)) held (mix (λ z. is_eq (variable_cmp x z)) (everywhere r) w)

    answers : (r : Point Parts) (t : Test) → holds t (held_with r) ≡ cond (is_lt (variable_cmp (asked t) y)) (holds t held) (cond (is_eq (variable_cmp x (asked t))) (holds t (everywhere r)) (holds t w))
    answers r t = grind (arith, mixed, cond, asked)

    pub formula_alike : (g : Formula) → AreAlike version_cmp p q (formula_ends g) → truth_of g (held_with p) ≡ truth_of g (held_with q)
    formula_alike (test t) a =
        answers p t ∙ ap (λ b. cond (is_lt (variable_cmp (asked t) y)) (holds t held) (cond (is_eq (variable_cmp x (asked t))) b (holds t w))) (test_alike t a) ∙ sym (answers q t)
    formula_alike (both f g) a =
        let r = alike_parts p q (formula_ends f) (formula_ends g) a in
        ap (λ b. b && truth_of g (held_with p)) (formula_alike f r.0) ∙ ap (λ b. truth_of f (held_with q) && b) (formula_alike g r.1)
    formula_alike (either f g) a =
        let r = alike_parts p q (formula_ends f) (formula_ends g) a in
        ap (λ b. b || truth_of g (held_with p)) (formula_alike f r.0) ∙ ap (λ b. truth_of f (held_with q) || b) (formula_alike g r.1)
