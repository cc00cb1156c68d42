-- Trees that are joined in another order.
use Rattle.std.proofs.Common.{◌≡◌, Bool, true, false, not, List, [], ◌∷◌, ◌++◌, refl, sym, ap, ◌∙◌, subst}
use Rattle.std.specs.List.{All, list_any}
use Rattle.std.specs.List.Sorted.{IsPermutation}
use Rattle.std.proofs.lemmas.List.Elements.{All-nil, All-cons, All-head, All-tail}
use Rattle.std.proofs.lemmas.List.Sorted.{All-permutation, list_any-IsPermutation}
use Rattle.marker_environment.specs.Valuation.{Valuation}
use Rattle.pep508_markers.specs.declared.run.Connective.{Connective}
use Rattle.pep508_markers.specs.declared.run.Connective.TheVariants.{And, Or}
use Rattle.marker_graph.specs.declared.tree.MarkerTree.{MarkerTree}
use Rattle.marker_graph.specs.Contents.{Contents, IsHeld, IsKept, truth}
use Rattle.pep508_markers.specs.Trees.{joins, AreHeld, truth_under}
use Rattle.pep508_markers.proofs.TreeLaws.{all_kept, held_kept, joins_apart, joins_turned, truth_kept, truth_of_both, truths_under_kept}

module _ (c : Contents) where
  to_all : (xs : List MarkerTree) → AreHeld c xs → All (IsHeld c) xs
  to_all [] h = All-nil (IsHeld c)
  to_all (t ∷ xs) h = All-cons (IsHeld c) t xs h.0 (to_all xs h.1)

  from_all : (xs : List MarkerTree) → All (IsHeld c) xs → AreHeld c xs
  from_all [] h = _
  from_all (t ∷ xs) h = (All-head (IsHeld c) t xs h, from_all xs (All-tail (IsHeld c) t xs h))

  pub moved_held : (xs ys : List MarkerTree) → IsPermutation xs ys → AreHeld c xs → AreHeld c ys
  moved_held xs ys p h = from_all ys (All-permutation (IsHeld c) xs ys p (to_all xs h))

  by_any : (xs : List MarkerTree) (v : Valuation) → truth_under c Or xs v ≡ list_any (λ t. truth c t v) xs
  by_any [] v = refl
  by_any (t ∷ xs) v = ap (joins Or (truth c t v)) (by_any xs v)

  denied : (x y : Bool) → joins And x (not y) ≡ not (joins Or (not x) y)
  denied true y = refl
  denied false y = refl

  by_none : (xs : List MarkerTree) (v : Valuation) → truth_under c And xs v ≡ not (list_any (λ t. not (truth c t v)) xs)
  by_none [] v = refl
  by_none (t ∷ xs) v = ap (joins And (truth c t v)) (by_none xs v) ∙ denied (truth c t v) (list_any (λ u. not (truth c u v)) xs)

  pub moved_truth : (k : Connective) (xs ys : List MarkerTree) → IsPermutation xs ys → (v : Valuation) → truth_under c k ys v ≡ truth_under c k xs v
  moved_truth Or xs ys p v = by_any ys v ∙ sym (list_any-IsPermutation (λ t. truth c t v) xs ys p) ∙ sym (by_any xs v)
  moved_truth And xs ys p v = by_none ys v ∙ ap not (sym (list_any-IsPermutation (λ t. not (truth c t v)) xs ys p)) ∙ sym (by_none xs v)

  pub split_held : (xs ys : List MarkerTree) → AreHeld c (xs ++ ys) → AreHeld c xs × AreHeld c ys
  split_held [] ys h = (_, h)
  split_held (t ∷ xs) ys h = let p = split_held xs ys h.1 in ((h.0, p.0), p.1)

-- trees at the front of a list are joined
module _ (k : Connective) (c : Contents) (first : MarkerTree) (alike rest all : List MarkerTree) (is : all ≡ alike ++ rest) (held : AreHeld c (first ∷ all)) where
  parts_held : AreHeld c alike × AreHeld c rest
  parts_held = split_held c alike rest (subst (AreHeld c) is held.1)

  pub alike_held : AreHeld c (first ∷ alike)
  alike_held = (held.0, parts_held.0)

  module _ (d : Contents) (t : MarkerTree) (kept : IsKept c d) where
    pub joined_held : IsHeld d t → AreHeld d (t ∷ rest)
    joined_held h = (h, all_kept c d rest kept parts_held.1)

    pub joined_means : ((v : Valuation) → truth d t v ≡ truth_under c k (first ∷ alike) v) → (v : Valuation) → truth_under d k (t ∷ rest) v ≡ truth_under c k (first ∷ all) v
    joined_means means v =
        (λ i. joins k (means v i) (truths_under_kept c d k rest kept parts_held.1 v i))
        ∙ sym (truth_of_both c k (first ∷ alike) rest v)
        ∙ ap (λ (xs : List MarkerTree). truth_under c k (first ∷ xs) v) (sym is)

-- a tree is joined with what was joined before
module _ (k : Connective) (c d e : Contents) (joined next tree both : MarkerTree) (trees rest left : List MarkerTree) (popped : trees ≡ next ∷ rest)
    (kept : IsKept c d) (kept' : IsKept d e) (held : AreHeld c (joined ∷ trees)) where
  pub before_held : IsHeld d joined
  before_held = held_kept c d joined kept held.0

  pub both_held : AreHeld d (tree ∷ left) → IsHeld e both → AreHeld e (both ∷ left)
  both_held h one = (one, all_kept d e left kept' h.1)

  pub both_mean : AreHeld d (tree ∷ left) → ((v : Valuation) → truth_under d k (tree ∷ left) v ≡ truth_under c k (next ∷ rest) v) → ((v : Valuation) → truth e both v ≡ joins k (truth e tree v) (truth e joined v)) →
      (v : Valuation) → truth_under e k (both ∷ left) v ≡ truth_under c k (joined ∷ trees) v
  both_mean h alike means v =
      (λ i. joins k ((means v ∙ joins_turned k (truth e tree v) (truth e joined v)) i) (truth_under e k left v))
      ∙ joins_apart k (truth e joined v) (truth e tree v) (truth_under e k left v)
      ∙ (λ i. joins k ((truth_kept d e joined kept' before_held v ∙ truth_kept c d joined kept held.0 v) i) ((truths_under_kept d e k (tree ∷ left) kept' h v ∙ alike v ∙ ap (λ (xs : List MarkerTree). truth_under c k xs v) (sym popped)) i))
