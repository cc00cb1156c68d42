-- Equal intervals have the same points.
use Rattle.std.proofs.Common.{◌≡◌, Bool, true, not, ◌||◌, List, [], ◌∷◌, refl, sym, ap, ◌∙◌, arith, rules}
use Rattle.std.specs.List.{list_any}
use Rattle.std.specs.Ordering.{is_lt, is_eq}
use Rattle.std.specs.declared.cmp.Ordering.{Ordering}
use Rattle.std.specs.declared.cmp.Ordering.TheVariants.{Equal}
use Rattle.std.specs.declared.ops.Bound.{Bound}
use Rattle.std.specs.Cmp.{IsTotalOrder}
use Rattle.std.proofs.lemmas.Bool.{and_parts, false≢true}
use Rattle.std.proofs.lemmas.Cmp.{alike_right}
use Rattle.version_ranges.specs.Point.{Point, point_cmp, point_lt, is_from, is_until}
use Rattle.version_ranges.specs.Parts.{same_bound}
use Rattle.version_ranges.specs.Intervals.{same_interval, same_intervals, is_within}
use Rattle.version_ranges.proofs.StepLaws.{is_equal}
use Rattle.version_ranges.proofs.PartLaws.{point_total}

module _ {T : Type 0} {cmp : T → T → Ordering} (o : IsTotalOrder cmp) (eq : T → T → Bool) (ties : (x y : T) → eq x y ≡ is_eq (cmp x y)) where
  tied : (v w : T) → eq v w ≡ true → cmp v w ≡ Equal
  tied v w e = is_equal _ (sym (ties v w) ∙ e)

  -- equal points are after the same points
  before_tied : (p q r : Point T) → point_cmp cmp q r ≡ Equal → point_lt cmp p q ≡ point_lt cmp p r
  before_tied p q r e = ap is_lt (alike_right (point_total cmp o) q r p e)

  from_same : (b c : Bound T) (p : Point T) → same_bound eq b c ≡ true → is_from cmp b p ≡ is_from cmp c p
  from_same b c p h1 = search (rules, not, before_tied, tied, false≢true)

  until_same : (b c : Bound T) (p : Point T) → same_bound eq b c ≡ true → is_until cmp b p ≡ is_until cmp c p
  until_same b c p h1 = grind arith

  within_same : (i j : Bound T × Bound T) (p : Point T) → same_interval eq i j ≡ true → is_within cmp i p ≡ is_within cmp j p
  within_same i j p h1 = search (rules, and_parts, from_same, until_same)

  pub any_same : (is js : List (Bound T × Bound T)) (p : Point T) → same_intervals eq is js ≡ true → list_any (λ i. is_within cmp i p) is ≡ list_any (λ i. is_within cmp i p) js
  any_same [] [] p e = refl
  any_same [] (j ∷ js) p e = absurd (false≢true e)
  any_same (i ∷ is) [] p e = absurd (false≢true e)
  any_same (i ∷ is) (j ∷ js) p e =
      let q = and_parts (same_interval eq i j) (same_intervals eq is js) e in
      ap (λ b. b || list_any (λ i. is_within cmp i p) is) (within_same i j p q.0) ∙ ap (λ b. is_within cmp j p || b) (any_same is js p q.1)
