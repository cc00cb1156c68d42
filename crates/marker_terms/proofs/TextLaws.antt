-- Sets of texts, interval by interval, at points that go by bytes.
use Rattle.std.proofs.Common.{◌≡◌, ℕ, Bool, true, false, not, cond, ◌&&◌, ◌||◌, List, [], ◌∷◌, map, string_bytes, refl, sym, ap, ◌∙◌, arith}
use Rattle.std.specs.Prelude.{String, IfSome, Option, Some, None}
use Rattle.std.specs.Borrow.{Bor}
use Rattle.std.specs.Global.{Global}
use Rattle.std.specs.List.{list_all, list_any}
use Rattle.std.specs.Ordering.{is_eq, is_ne}
use Rattle.std.specs.Range.Bound.{bound_map}
use Rattle.std.specs.declared.cmp.Ordering.{Ordering}
use Rattle.std.specs.declared.ops.Bound.{Bound}
use Rattle.std.specs.declared.ops.Bound.TheVariants.{Unbounded}
use Rattle.std.specs.Cmp.{IsTotalOrder}
use Rattle.std.specs.Cmp.Lexicographic.{nat_list_cmp_total}
use Rattle.std.specs.String.{string_cmp, string_cmp_total}
use Rattle.std.proofs.lemmas.Bool.{and_parts}
use Rattle.version_ranges.specs.declared.cut.Cut.{Cut}
use Rattle.version_ranges.specs.declared.ranges.Ranges.{Ranges}
use Rattle.version_ranges.specs.Point.{Point, is_from, is_in_bounds, is_until}
use Rattle.version_ranges.specs.Cut.{cut_cmp, lower_of, upper_of, stands_before}
use Rattle.version_ranges.specs.Intervals.{intervals_among, intervals_of, is_within}
use Rattle.version_ranges.specs.Parts.{parts_from}
use Rattle.version_ranges.specs.Ranges.{contains_by, contains_point}
use Rattle.version_ranges.specs.Steps.{ascends, is_before, value_at}
use Rattle.version_ranges.proofs.Elsewhere.{at_names}
use Rattle.version_ranges.proofs.PartLaws.{before_later, bottom_from, lower_is, upper_is}
use Rattle.version_ranges.proofs.StepLaws.{lt_less}
use Rattle.marker_words.specs.declared.key.MarkerValueString.{MarkerValueString}
use Rattle.marker_words.specs.declared.operator.MarkerOperator.{MarkerOperator}
use Rattle.marker_words.specs.declared.operator.MarkerOperator.TheVariants.{In, NotIn, Contains, NotContains}
use Rattle.marker_words.specs.Compare.{beside, holds_beside, pairs_of, text_bound, text_cmp, text_eq}
use Rattle.marker_words.specs.Key.{variable_of}
use Rattle.marker_environment.specs.Valuation.{Valuation}
use Rattle.marker_parts.specs.Expression.{holds_text}

-- ---- the intervals of steps, over any order

module _ {T : Type 0} {cmp : T → T → Ordering} (o : IsTotalOrder cmp) where
  -- a point before a cut is in no interval after it
  none_after : (p : Point T) (c : Cut T) (v : Bool) (xs : List (Cut T × Bool)) → ascends (cut_cmp cmp) (Some c) xs ≡ true → stands_before (λ v. v) cmp p c ≡ true →
      list_any (λ i. is_within cmp i p) (intervals_among (parts_from (lower_of c) v xs)) ≡ false
  none_after p c true [] a e = ap (λ b. (b && true) || false) (lower_is cmp p c ∙ ap not e)
  none_after p c false [] a e = refl
  none_after p c true (x ∷ xs) a e =
      let q = and_parts _ _ a in
      ap (λ b. (b && is_until cmp (upper_of x.0) p) || list_any (λ i. is_within cmp i p) (intervals_among (parts_from (lower_of x.0) x.1 xs))) (lower_is cmp p c ∙ ap not e)
      ∙ none_after p x.0 x.1 xs q.1 (before_later cmp o p c x.0 e (lt_less _ q.0))
  none_after p c false (x ∷ xs) a e = let q = and_parts _ _ a in none_after p x.0 x.1 xs q.1 (before_later cmp o p c x.0 e (lt_less _ q.0))

  covers_by : (p : Point T) (from : Bool) (until : Bool) (v w : Bool) (more : Bool) → from ≡ true → (until ≡ true → more ≡ false) → (until ≡ false → w ≡ more) →
      cond until v w ≡ cond v ((from && until) || more) more
  covers_by p from until v w more h1 h2 h3 = grind arith

  any_cond : (t : Bound T × Bound T → Bool) (v : Bool) (i : Bound T × Bound T) (is : List (Bound T × Bound T)) → list_any t (cond v (i ∷ is) is) ≡ cond v (t i || list_any t is) (list_any t is)
  any_cond t v i is = grind arith

  -- a point is in the set if it is in an interval
  pub held_covers : (p : Point T) (low : Option (Cut T)) (lower : Bound T) (v : Bool) (xs : List (Cut T × Bool)) → ascends (cut_cmp cmp) low xs ≡ true → is_from cmp lower p ≡ true →
      value_at (stands_before (λ v. v) cmp p) v xs ≡ list_any (λ i. is_within cmp i p) (intervals_among (parts_from lower v xs))
  held_covers p low lower true [] a e = ap (λ b. (b && true) || false) (sym e)
  held_covers p low lower false [] a e = refl
  held_covers p low lower v (x ∷ xs) a e =
      let q = and_parts _ _ a in
      covers_by p (is_from cmp lower p) (stands_before (λ v. v) cmp p x.0) v (value_at (stands_before (λ v. v) cmp p) x.1 xs) (list_any (λ i. is_within cmp i p) (intervals_among (parts_from (lower_of x.0) x.1 xs))) e
      (none_after p x.0 x.1 xs q.1) (λ f. held_covers p (Some x.0) (lower_of x.0) x.1 xs q.1 (lower_is cmp p x.0 ∙ ap not f))
      ∙ ap (λ b. cond v ((is_from cmp lower p && b) || list_any (λ i. is_within cmp i p) (intervals_among (parts_from (lower_of x.0) x.1 xs))) (list_any (λ i. is_within cmp i p) (intervals_among (parts_from (lower_of x.0) x.1 xs)))) (sym (upper_is cmp p x.0))
      ∙ sym (any_cond (λ i. is_within cmp i p) v (lower, upper_of x.0) (intervals_among (parts_from (lower_of x.0) x.1 xs)))

-- ---- the same with the bytes of texts

-- a cut and its steps, with the bytes of texts
abbrev cut_bytes : Cut (String Global) → Cut (List ℕ)
cut_bytes c = record { value = string_bytes c.value; above = c.above }

abbrev step_bytes : Cut (String Global) × Bool → Cut (List ℕ) × Bool
step_bytes s = (cut_bytes s.0, s.1)

abbrev pub interval_bytes : Bound (String Global) × Bound (String Global) → Bound (List ℕ) × Bound (List ℕ)
interval_bytes i = (bound_map string_bytes i.0, bound_map string_bytes i.1)

same_lower : (c : Cut (String Global)) → bound_map string_bytes (lower_of c) ≡ lower_of (cut_bytes c)
same_lower c = grind arith

same_upper : (c : Cut (String Global)) → bound_map string_bytes (upper_of c) ≡ upper_of (cut_bytes c)
same_upper c = grind arith

-- the intervals of the steps with bytes are the intervals with bytes
same_held : (low : Bound (String Global)) (v : Bool) (xs : List (Cut (String Global) × Bool)) → map interval_bytes (intervals_among (parts_from low v xs)) ≡ intervals_among (parts_from (bound_map string_bytes low) v (map step_bytes xs))
same_held low true [] = refl
same_held low false [] = refl
same_held low true (x ∷ xs) =
    ap (λ u. let i : Bound (List ℕ) × Bound (List ℕ) = (bound_map string_bytes low, u) in i ∷ map interval_bytes (intervals_among (parts_from (lower_of x.0) x.1 xs))) (same_upper x.0)
    ∙ ap (λ is. let i : Bound (List ℕ) × Bound (List ℕ) = (bound_map string_bytes low, upper_of (cut_bytes x.0)) in i ∷ is)
    (same_held (lower_of x.0) x.1 xs ∙ ap (λ l. intervals_among (parts_from l x.1 (map step_bytes xs))) (same_lower x.0))
same_held low false (x ∷ xs) = same_held (lower_of x.0) x.1 xs ∙ ap (λ l. intervals_among (parts_from l x.1 (map step_bytes xs))) (same_lower x.0)

-- they ascend, and have the same values
bytes_ascend : (low : Cut (String Global)) (xs : List (Cut (String Global) × Bool)) → ascends (cut_cmp string_cmp) (Some low) xs ≡ ascends (cut_cmp text_cmp) (Some (cut_bytes low)) (map step_bytes xs)
bytes_ascend low [] = refl
bytes_ascend low (x ∷ xs) = ap (λ b. is_before (cut_cmp string_cmp) (Some low) x.0 && b) (bytes_ascend x.0 xs)

all_ascend : (xs : List (Cut (String Global) × Bool)) → ascends (cut_cmp string_cmp) None xs ≡ ascends (cut_cmp text_cmp) None (map step_bytes xs)
all_ascend [] = refl
all_ascend (x ∷ xs) = bytes_ascend x.0 xs

same_value : (q : Point (List ℕ)) (v : Bool) (xs : List (Cut (String Global) × Bool)) → value_at (stands_before (λ v. v) text_cmp q) v (map step_bytes xs) ≡ value_at (stands_before string_bytes text_cmp q) v xs
same_value q v [] = refl
same_value q v (x ∷ xs) = ap (λ w. cond (stands_before string_bytes text_cmp q x.0) v w) (same_value q x.1 xs)

any_map : {I J : Type 0} (t : J → Bool) (f : I → J) (xs : List I) → list_any t (map f xs) ≡ list_any (λ i. t (f i)) xs
any_map t f [] = refl
any_map t f (x ∷ xs) = ap (λ b. t (f x) || b) (any_map t f xs)

module _ {a : _} {b : _} {c : _} (set : Ranges (String Global) a b c) where
  -- a point is in a set of texts if it is in an interval
  pub text_covers : ascends (cut_cmp string_cmp) None set.cuts.rest.items ≡ true → (q : Point (List ℕ)) →
      contains_by string_bytes text_cmp set q ≡ list_any (λ i. is_within text_cmp (interval_bytes i) q) (intervals_of set)
  text_covers asc q =
      sym (same_value q set.cuts.first set.cuts.rest.items)
      ∙ held_covers nat_list_cmp_total q None Unbounded set.cuts.first (map step_bytes set.cuts.rest.items) (sym (all_ascend set.cuts.rest.items) ∙ asc) (bottom_from text_cmp q)
      ∙ ap (list_any (λ i. is_within text_cmp i q)) (sym (same_held Unbounded set.cuts.first set.cuts.rest.items))
      ∙ any_map (λ i. is_within text_cmp i q) interval_bytes (intervals_of set)

  -- what is outside of it by values is outside of it by bytes
  pub text_outside : {d : _} {e : _} {f : _} (outside : Ranges (String Global) d e f) → ((p : Point (String Global)) → contains_point string_cmp outside p ≡ not (contains_point string_cmp set p)) →
      (q : Point (List ℕ)) → contains_by string_bytes text_cmp outside q ≡ not (contains_by string_bytes text_cmp set q)
  text_outside outside h q =
      at_names string_bytes string_cmp text_cmp string_cmp_total nat_list_cmp_total (λ x y. refl) outside.cuts set.cuts set.cuts (λ t i u j w k. t ≡ not u) h q

-- the bounds of an item
pub text_bound_is : (b : Bound (Bor (String Global))) → bound_map string_bytes (bound_map (λ v. v.now) b) ≡ text_bound b
text_bound_is b = grind arith

pub interval_is : (lower upper : Bound (Bor (String Global))) (q : Point (List ℕ)) →
    is_within text_cmp (interval_bytes (bound_map (λ v. v.now) lower, bound_map (λ v. v.now) upper)) q ≡ is_in_bounds text_cmp (text_bound lower) (text_bound upper) q
interval_is lower upper q = grind arith

-- ---- comparisons by order

-- whether the operator is about order
abbrev pub orders : MarkerOperator → Bool
orders In = false
orders NotIn = false
orders Contains = false
orders NotContains = false
orders operator = true

pub order_holds : (o : MarkerOperator) → orders o ≡ true → (key : MarkerValueString) (value : List ℕ) (v : Valuation) → holds_text o key value v ≡ holds_beside o (beside text_cmp (v.text (variable_of key)) value)
order_holds o h1 key value v = grind arith

-- those of a range do
pub pairs_order : (lower upper : Bound (List ℕ)) → list_all (λ pair. orders pair.0) (pairs_of text_eq lower upper) ≡ true
pairs_order lower upper = grind arith

-- a single text that was found is excluded by `!=`
pub excluded_text : (found : Option (Bor (String Global))) (t : Bor (String Global)) (lower upper : Bound (List ℕ)) → found ≡ Some t →
    IfSome found (λ s. (q : Point (List ℕ)) → is_in_bounds text_cmp lower upper q ≡ is_eq (beside text_cmp q (string_bytes s.now))) →
    (q : Point (List ℕ)) → is_ne (beside text_cmp q (string_bytes t.now)) ≡ not (is_in_bounds text_cmp lower upper q)
excluded_text found t lower upper h1 h2 q = grind arith
