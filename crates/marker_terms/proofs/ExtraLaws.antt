-- The first extra of a clause, and of each clause.
use Rattle.std.proofs.Common.{◌≡◌, ℕ, zero, suc, ◌+◌, ◌<◌, ◌≤◌, List, [], ◌∷◌, length, get_or, take, drop, Some, None, refl, sym, ap, ◌∙◌, arith}
use Rattle.std.specs.Prelude.{Vec}
use Rattle.std.specs.List.{AllByRecursion}
use Rattle.marker_parts.specs.declared.expression.MarkerExpression.{MarkerExpression}
use Rattle.marker_parts.specs.Expression.{Extra}
use Rattle.marker_terms.specs.Clauses.{clauses_of}
use Rattle.marker_terms.specs.Extra.{asked_extra, first_extra, or_else, HasCommonExtra}

-- the first one from a place on
pub first_here : (xs : List MarkerExpression) (i : ℕ) (t : MarkerExpression) → i < length xs → t ≡ get_or xs i t → first_extra (drop i xs) ≡ or_else (asked_extra t) (first_extra (drop (i + 1) xs))
first_here [] i t l e = absurd (omega arith)
first_here (x ∷ xs) zero t l e = ap (λ y. or_else (asked_extra y) (first_extra xs)) (sym e)
first_here (x ∷ xs) (suc i) t l e =
    let n : suc (i + 1) ≡ suc i + 1 = omega arith in
    first_here xs i t (omega arith) e ∙ ap (λ k. or_else (asked_extra t) (first_extra (drop k (x ∷ xs)))) n

-- there is none after the end
pub first_none : (xs : List MarkerExpression) (i : ℕ) → length xs ≤ i → first_extra (drop i xs) ≡ None
first_none [] zero l = refl
first_none [] (suc i) l = refl
first_none (x ∷ xs) zero l = absurd (omega arith)
first_none (x ∷ xs) (suc i) l = first_none xs i (omega arith)

module _ {A : Type 0} (x : Extra) where
  abbrev pub EachHas : List (Vec MarkerExpression A) → Type 0
  EachHas clauses = AllByRecursion (λ clause. first_extra clause ≡ Some x) (clauses_of clauses)

  pub each_more : (cs : List (Vec MarkerExpression A)) (i : ℕ) (c : Vec MarkerExpression A) → i < length cs → c ≡ get_or cs i c → EachHas (take i cs) → first_extra c.items ≡ Some x → EachHas (take (i + 1) cs)
  each_more [] i c l e h f = absurd (omega arith)
  each_more (d ∷ cs) zero c l e h f = (ap (λ y. first_extra y.items) (sym e) ∙ f, tt)
  each_more (d ∷ cs) (suc i) c l e h f = grind (arith, take, each_more cs i c)

  pub each_at : (cs : List (Vec MarkerExpression A)) (i : ℕ) (c : Vec MarkerExpression A) → i < length cs → c ≡ get_or cs i c → EachHas cs → first_extra c.items ≡ Some x
  each_at [] i c l e h = absurd (omega arith)
  each_at (d ∷ cs) zero c l e h = ap (λ y. first_extra y.items) e ∙ h.0
  each_at (d ∷ cs) (suc i) c l e h = each_at cs i c (omega arith) e h.1

  -- the first clause and another one have a common extra
  pub common_at : (clauses others : List (Vec MarkerExpression A)) (first other : Vec MarkerExpression A) (i : ℕ) → clauses ≡ first ∷ others → i < length others → other ≡ get_or others i other →
      HasCommonExtra (clauses_of clauses) x → (first_extra first.items ≡ Some x) × (first_extra other.items ≡ Some x)
  common_at clauses others first other i h1 h2 h3 h4 = grind (arith, each_at)
