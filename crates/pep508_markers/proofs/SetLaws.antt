-- Trees that are joined as sets.
use Rattle.std.proofs.Common.{◌≡◌, ℕ, List, ◌++◌, Bool, take, drop, Some, Result, Ok, Err, sym, ap, ◌∙◌, subst}
use Rattle.std.specs.Prelude.{Option, None, IfOk, IfSome}
use Rattle.std.proofs.lemmas.List.{take-append-drop}
use Rattle.marker_environment.specs.Valuation.{Valuation}
use Rattle.marker_simplifications.specs.declared.value_set.ValueSet.{ValueSet}
use Rattle.marker_simplifications.specs.ValueSet.{contains}
use Rattle.marker_graph.specs.declared.tree.MarkerTree.{MarkerTree}
use Rattle.marker_graph.specs.Contents.{Contents}
use Rattle.pep508_markers.specs.declared.run.Connective.{Connective}
use Rattle.pep508_markers.specs.Trees.{joins, truth_under, AreHeld}
use Rattle.pep508_markers.proofs.TreeLaws.{truth_of_both}
use Rattle.pep508_markers.proofs.OrderLaws.{split_held}

-- a set that may be found says one thing, or another one that is the same
pub found_same : {E : Type 0} (r : Result (Option ValueSet) E) (f g : Valuation → Bool) → ((v : Valuation) → f v ≡ g v) →
    IfOk r (λ found. IfSome found (λ set. (v : Valuation) → contains set v ≡ f v)) → IfOk r (λ found. IfSome found (λ set. (v : Valuation) → contains set v ≡ g v))
found_same (Ok (Some set)) f g same h = λ v. h v ∙ same v
found_same (Ok None) f g same h = h
found_same (Err e) f g same h = h

module _ (c : Contents) (k : Connective) where
  module _ (trees left right : List MarkerTree) (middle : ℕ) (front : left ≡ take middle trees) (back : right ≡ drop middle trees) where
    whole : left ++ right ≡ trees
    whole = (λ i. front i ++ back i) ∙ take-append-drop middle trees

    pub halves_held : AreHeld c trees → AreHeld c left × AreHeld c right
    halves_held h = split_held c left right (subst (AreHeld c) (sym whole) h)

    -- two halves are joined
    pub halves_truth : (x y : Valuation → Bool) → ((v : Valuation) → x v ≡ truth_under c k left v) → ((v : Valuation) → y v ≡ truth_under c k right v) → (v : Valuation) → joins k (x v) (y v) ≡ truth_under c k trees v
    halves_truth x y h g v = (λ i. joins k (h v i) (g v i)) ∙ sym (truth_of_both c k left right v) ∙ ap (λ (l : List MarkerTree). truth_under c k l v) whole
