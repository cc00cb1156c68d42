-- Truths under a range of Python versions.
use Rattle.std.proofs.Common.{◌≡◌, Bool, true, false, ◌&&◌, refl, sym, ap, ◌∙◌, arith}
use Rattle.std.specs.Ordering.{is_lt, ordering_reverse}
use Rattle.std.specs.declared.ops.Bound.{Bound}
use Rattle.std.specs.declared.ops.Bound.TheVariants.{Unbounded}
use Rattle.std.proofs.lemmas.Bool.{and_from, true≢false}
use Rattle.std.proofs.lemmas.Cmp.{tied_itself}
use Rattle.version_ranges.specs.Point.{Point, bottom, begin_point, point_cmp, point_lt, is_from, is_until, is_in_bounds}
use Rattle.version_ranges.proofs.StepLaws.{lt_less}
use Rattle.version_ranges.proofs.PartLaws.{bottom_from, point_total}
use Rattle.version_ranges.proofs.ClampLaws.{begin_from, no_point, point_found}
use Rattle.version_ranges.specs.Clamp.{IsBare, IsBetween, IsClamped}
use Rattle.pep440_version.specs.Parts.{Parts}
use Rattle.pep440_version.specs.Order.{version_cmp}
use Rattle.pep440_version.specs.OrderLaws.{version_total}
use Rattle.marker_words.specs.declared.key.VersionVariable.TheVariants.{ImplementationVersion}
use Rattle.marker_environment.specs.Valuation.{Valuation}
use Rattle.marker_diagrams.specs.declared.node_id.NodeId.{NodeId}
use Rattle.marker_diagrams.specs.Id.{signed, same_id}
use Rattle.marker_diagrams.proofs.IdLaws.{same_id_is}
use Rattle.marker_nodes.specs.Python.{python_of, with_python}
use Rattle.marker_simplifications.specs.Python.{Assumes, is_python_in, is_whole, require}

-- a range that leaves nothing out has no bounds
pub whole_below : (lower upper : Bound Parts) → is_whole lower upper ≡ true → lower ≡ Unbounded
whole_below lower upper h1 = grind arith

pub whole_above : (lower upper : Bound Parts) → is_whole lower upper ≡ true → upper ≡ Unbounded
whole_above lower upper h1 = grind arith

pub not_whole : {G : Type 0} (lower upper : Bound Parts) → is_whole lower upper ≡ false → lower ≡ Unbounded → upper ≡ Unbounded → G
not_whole lower upper e h k = absurd (true≢false (sym (ap (λ l. is_whole l upper) h ∙ ap (is_whole Unbounded) k) ∙ e))

-- without bounds each truth is what it is
unbounded_by : (f : Valuation → Bool) → Assumes Unbounded Unbounded f f
unbounded_by f = record {
  inside = λ v j. refl;
  below = λ p j v b. absurd (true≢false (sym (bottom_from version_cmp (python_of v)) ∙ b));
  above = λ p j v b. absurd (true≢false b);
  empty = λ n v. absurd (true≢false (n bottom));
}

pub assumes_whole : (lower upper : Bound Parts) → is_whole lower upper ≡ true → (f : Valuation → Bool) → Assumes lower upper f f
assumes_whole lower upper h1 f = grind (arith, whole_below, whole_above, unbounded_by)

-- and each version lies in them
in_unbounded : (lower upper : Bound Parts) → lower ≡ Unbounded → upper ≡ Unbounded → (v : Valuation) → is_python_in lower upper v ≡ true
in_unbounded lower upper e h v = ap (λ l. is_in_bounds version_cmp l upper (python_of v)) e ∙ ap (λ u. is_in_bounds version_cmp Unbounded u (python_of v)) h ∙ and_from _ _ (bottom_from version_cmp (python_of v)) refl

and_true : (b : Bool) → (b && true) ≡ b
and_true b = grind arith

pub required_whole : (lower upper : Bound Parts) → is_whole lower upper ≡ true → (f : Valuation → Bool) (v : Valuation) → f v ≡ require lower upper f v
required_whole lower upper w f v = sym (ap (λ b. f v && b) (in_unbounded lower upper (whole_below lower upper w) (whole_above lower upper w) v) ∙ and_true (f v))

module _ (lower upper : Bound Parts) where
  -- the same of truths that are the same
  pub assumes_same : (f f' g g' : Valuation → Bool) → ((v : Valuation) → f' v ≡ f v) → ((v : Valuation) → g' v ≡ g v) → Assumes lower upper f g → Assumes lower upper f' g'
  assumes_same f f' g g' e h a = record {
    inside = λ v j. h v ∙ a.inside v j ∙ sym (e v);
    below = λ p j v b. h v ∙ a.below p j v b ∙ sym (e (with_python (begin_point lower) v));
    above = λ p j v b. let q = a.above p j v b in (q.0, q.1, λ r k l. h v ∙ q.2 r k l ∙ sym (e (with_python r v)));
    empty = λ n v. h v ∙ a.empty n v;
  }

  -- for an empty range, what is false everywhere
  pub assumes_nothing : IsBare version_cmp lower upper → (f g : Valuation → Bool) → ((v : Valuation) → g v ≡ false) → Assumes lower upper f g
  assumes_nothing n f g e = record {
    inside = λ v j. absurd (true≢false (sym j ∙ n (python_of v)));
    below = λ p j v b. absurd (true≢false (sym j ∙ n p));
    above = λ p j v b. absurd (true≢false (sym j ∙ n p));
    empty = λ m v. e v;
  }

  module _ (p : Point Parts) (i : IsBetween version_cmp lower upper p) where
    -- a truth that does not see the Python version is what it is
    pub assumes_unseen : (f : Valuation → Bool) → ((q : Point Parts) (v : Valuation) → f (with_python q v) ≡ f v) → Assumes lower upper f f
    assumes_unseen f u = record {
      inside = λ v j. refl;
      below = λ q j v b. sym (u (begin_point lower) v);
      above = λ q j v b. (q, j, λ r k l. sym (u r v));
      empty = λ n v. absurd (true≢false (sym i ∙ n p));
    }

    pub assumes_signed : (s : Bool) (f g : Valuation → Bool) → Assumes lower upper f g → Assumes lower upper (λ v. signed s (f v)) (λ v. signed s (g v))
    assumes_signed s f g a = record {
      inside = λ v j. ap (signed s) (a.inside v j);
      below = λ q j v b. ap (signed s) (a.below q j v b);
      above = λ q j v b. let r = a.above q j v b in (r.0, r.1, λ t k l. ap (signed s) (r.2 t k l));
      empty = λ n v. absurd (true≢false (sym i ∙ n p));
    }

    -- truths that are chosen by the implementation's version
    pub assumes_by : (f g : Point Parts → Valuation → Bool) → ((q : Point Parts) → Assumes lower upper (f q) (g q)) → Assumes lower upper (λ v. f (v.version ImplementationVersion) v) (λ v. g (v.version ImplementationVersion) v)
    assumes_by f g h = record {
      inside = λ v j. (h (v.version ImplementationVersion)).inside v j;
      below = λ q j v b. (h (v.version ImplementationVersion)).below q j v b;
      above = λ q j v b. (h (v.version ImplementationVersion)).above q j v b;
      empty = λ n v. (h (v.version ImplementationVersion)).empty n v;
    }

    module _ (old new : Point Parts → NodeId) (c : IsClamped version_cmp lower upper same_id old new) where
      -- children that do not see the Python version, chosen by it
      pub assumes_clamped : (f : NodeId → Valuation → Bool) → ((q r : Point Parts) (v : Valuation) → f (old q) (with_python r v) ≡ f (old q) v) → Assumes lower upper (λ v. f (old (python_of v)) v) (λ v. f (new (python_of v)) v)
      assumes_clamped f u = record {
        inside = λ v j. ap (λ t. f t v) (same_id_is (new (python_of v)) (old (python_of v)) (c.inside (python_of v) j));
        below = λ q j v b. ap (λ t. f t v) (same_id_is (new (python_of v)) (old (begin_point lower)) (c.below (python_of v) b)) ∙ sym (u (begin_point lower) (begin_point lower) v);
        above = λ q j v b.
            let r = c.above (python_of v) b in (r.0, r.1, λ t k l. ap (λ w. f w v) (same_id_is (new (python_of v)) (old t) (r.2 t k l)) ∙ sym (u t t v));
        empty = λ n v. absurd (true≢false (sym i ∙ n p));
      }

      -- each new child is an old one
      pub clamped_from : (q : Point Parts) → (r : Point Parts) × (new q ≡ old r)
      clamped_from q = by_test (is_from version_cmp lower q) refl (is_until version_cmp upper q) refl
        where
          by_test : (a : Bool) → is_from version_cmp lower q ≡ a → (b : Bool) → is_until version_cmp upper q ≡ b → (r : Point Parts) × (new q ≡ old r)
          by_test true f true g = (q, same_id_is (new q) (old q) (c.inside q (and_from _ _ f g)))
          by_test true f false g =
              let z = c.above q g in
              (z.0, same_id_is (new q) (old z.0) (z.2 z.0 z.1 (ap is_lt (tied_itself (point_total version_cmp version_total) z.0))))
          by_test false f b g = (begin_point lower, same_id_is (new q) (old (begin_point lower)) (c.below q f))

  -- ---- two truths that assume what two others are
  module _ (f g f' g' : Valuation → Bool) (a : Assumes lower upper f f') (b : Assumes lower upper g g') where
    -- they agree in the range if these are equal
    pub agree_inside : ((v : Valuation) → f' v ≡ g' v) → (v : Valuation) → is_in_bounds version_cmp lower upper (python_of v) ≡ true → f v ≡ g v
    agree_inside e v j = sym (a.inside v j) ∙ e v ∙ b.inside v j

    -- and these are equal if they agree in the range
    module _ (e : (v : Valuation) → is_python_in lower upper v ≡ true → f v ≡ g v) where
      point_itself : (q : Point Parts) → point_lt version_cmp q q ≡ false
      point_itself q = ap is_lt (tied_itself (point_total version_cmp version_total) q)

      point_turned : (q r : Point Parts) → point_lt version_cmp q r ≡ true → point_lt version_cmp r q ≡ false
      point_turned q r l = ap is_lt ((point_total version_cmp version_total).antisymm r q ∙ ap ordering_reverse (lt_less (point_cmp version_cmp q r) l))

      by_place : (p : Point Parts) → IsBetween version_cmp lower upper p → is_until version_cmp upper (begin_point lower) ≡ true → (v : Valuation) → (j : Bool) → is_from version_cmp lower (python_of v) ≡ j → (k : Bool) → is_until version_cmp upper (python_of v) ≡ k → f' v ≡ g' v
      by_place p i h v true m true n = let w : is_python_in lower upper v ≡ true = and_from _ _ m n in a.inside v w ∙ e v w ∙ sym (b.inside v w)
      by_place p i h v false m k n =
          a.below p i v m ∙ e (with_python (begin_point lower) v) (and_from _ _ (begin_from version_cmp version_total lower) h) ∙ sym (b.below p i v m)
      by_place p i h v true m false n = by_order (point_lt version_cmp q.0 r.0) refl
        where
          q : (q : Point Parts) × IsBetween version_cmp lower upper q × ((s : Point Parts) → IsBetween version_cmp lower upper s → point_lt version_cmp s q ≡ false → f' v ≡ f (with_python s v))
          q = a.above p i v n

          r : (r : Point Parts) × IsBetween version_cmp lower upper r × ((s : Point Parts) → IsBetween version_cmp lower upper s → point_lt version_cmp s r ≡ false → g' v ≡ g (with_python s v))
          r = b.above p i v n

          by_order : (z : Bool) → point_lt version_cmp q.0 r.0 ≡ z → f' v ≡ g' v
          by_order true l = q.2 r.0 r.1 (point_turned q.0 r.0 l) ∙ e (with_python r.0 v) r.1 ∙ sym (r.2 r.0 r.1 (point_itself r.0))
          by_order false l = q.2 q.0 q.1 (point_itself q.0) ∙ e (with_python q.0 v) q.1 ∙ sym (r.2 q.0 q.1 l)

      pub equal_outside : (v : Valuation) → f' v ≡ g' v
      equal_outside v = by_range (is_until version_cmp upper (begin_point lower)) refl
        where
          by_range : (z : Bool) → is_until version_cmp upper (begin_point lower) ≡ z → f' v ≡ g' v
          by_range true h = let p = point_found version_cmp version_total lower upper h in by_place p.0 p.1 h v (is_from version_cmp lower (python_of v)) refl (is_until version_cmp upper (python_of v)) refl
          by_range false h = let n = no_point version_cmp version_total lower upper h in a.empty n v ∙ sym (b.empty n v)
