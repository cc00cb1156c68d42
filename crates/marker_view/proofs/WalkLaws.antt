-- Clauses that grow by the paths of a marker.
use Rattle.std.proofs.Common.{◌≡◌, ℕ, zero, suc, ◌+◌, ◌<◌, Bool, true, false, ◌&&◌, ◌||◌, List, [], ◌∷◌, ◌++◌, length, get_or, take, Some, refl, sym, ap, ◌∙◌, subst, arith}
use Rattle.std.specs.Prelude.{slice_get}
use Rattle.std.specs.declared.vec.IntoIter.{IntoIter}
use Rattle.std.specs.Vec.Iter.{into_iter_items, into_iter_len}
use Rattle.std.proofs.lemmas.List.{nil_from_length}
use Rattle.std.specs.List.{AllByRecursion}
use Rattle.std.proofs.lemmas.List.Folds.{list_all-append, list_all_more}
use Rattle.marker_environment.specs.Valuation.{Valuation}
use Rattle.marker_parts.specs.declared.expression.MarkerExpression.{MarkerExpression}
use Rattle.marker_parts.specs.Expression.{holds, test_of}
use Rattle.marker_diagrams.proofs.ResidueLaws.{subtree_both}
use Rattle.marker_nodes.specs.Node.{markers}
use Rattle.marker_nodes.proofs.Firsts.{true_is}
use Rattle.marker_terms.specs.Clauses.{clause_holds}
use Rattle.marker_terms.specs.Plain.{AllPrintable, IsPrintable}
use Rattle.marker_terms.proofs.PlainLaws.{each_pushed, printable_as}
use Rattle.marker_graph.specs.Contents.{Contents, truth}
use Rattle.marker_graph.specs.Tree.{IsSubtree}
use Rattle.marker_graph.specs.declared.tree.MarkerTree.{MarkerTree}
use Rattle.marker_graph.specs.declared.tree.TheConstants.MarkerTree.{TRUE}
use Rattle.marker_view.specs.declared.branch.Branch.{Branch}
use Rattle.marker_view.specs.Branch.{HasReleases}
use Rattle.marker_view.specs.PlainNodes.{IsReadable}

and_assoc : (a b c : Bool) → ((a && b) && c) ≡ (a && (b && c))
and_assoc a b c = grind arith

pub and_end : (a : Bool) → (a && true) ≡ a
and_end a = grind arith

and_no : (a : Bool) → (a && false) ≡ false
and_no a = grind arith

or_end : (a : Bool) → (a || false) ≡ a
or_end a = grind arith

or_assoc : (a b c : Bool) → ((a || b) || c) ≡ (a || (b || c))
or_assoc a b c = grind arith

or_both : (p a b : Bool) → ((p && a) || (p && b)) ≡ (p && (a || b))
or_both p a b = grind arith

-- one more term after both
pub term_more : (all new path terms : List MarkerExpression) (i : ℕ) (t e : MarkerExpression) → i < length terms → t ≡ get_or terms i t → test_of e ≡ test_of t → new ≡ all ++ (e ∷ []) →
    ((v : Valuation) → clause_holds all v ≡ (clause_holds path v && clause_holds (take i terms) v)) → (v : Valuation) → clause_holds new v ≡ (clause_holds path v && clause_holds (take (i + 1) terms) v)
term_more all new path terms i t e l is s n h v =
    ap (λ x. clause_holds x v) n ∙ list_all-append (λ x. holds (test_of x) v) all (e ∷ []) ∙ ap (λ b. b && (holds (test_of e) v && true)) (h v) ∙ and_assoc (clause_holds path v) (clause_holds (take i terms) v) (holds (test_of e) v && true)
    ∙ ap (λ b. clause_holds path v && (clause_holds (take i terms) v && b)) (and_end _ ∙ ap (λ x. holds x v) s ∙ ap (λ x. holds (test_of x) v) is) ∙ ap (λ b. clause_holds path v && b) (sym (list_all_more (λ x. holds (test_of x) v) terms i t l))

-- an element of a list of whose elements this is true
pub each_at : {X : Type 0} (P : X → Type 0) (xs : List X) (i : ℕ) (x : X) → i < length xs → x ≡ get_or xs i x → AllByRecursion P xs → P x
each_at P [] i x l e h = absurd (omega arith)
each_at P (y ∷ xs) zero x l e h = subst P (sym e) h.0
each_at P (y ∷ xs) (suc i) x l e h = each_at P xs i x (omega arith) e h.1

-- a clone of a printable term more
pub clone_more : (all new terms : List MarkerExpression) (i : ℕ) (t e : MarkerExpression) → i < length terms → t ≡ get_or terms i t → test_of e ≡ test_of t → new ≡ all ++ (e ∷ []) → AllPrintable terms → AllPrintable all → AllPrintable new
clone_more all new terms i t e l is s n h p = each_pushed IsPrintable all new e n p (printable_as t e s (each_at IsPrintable terms i t l is h))

-- a subtree of a readable marker is readable
pub readable_below : (c : Contents) (t s : MarkerTree) → IsSubtree c t s → IsReadable c t → IsReadable c s
readable_below c t s below h u n sub node = h u n (subtree_both markers c.nodes t.id s.id u.id below sub) node

-- what holds of a marker's bounds holds of those of its subtrees
pub releases_below : (c : Contents) (t s : MarkerTree) → IsSubtree c t s → HasReleases c t → HasReleases c s
releases_below c t s below h u n sub node = h u n (subtree_both markers c.nodes t.id s.id u.id below sub) node

-- the truth of `TRUE`
pub true_truth : (c : Contents) (t : MarkerTree) (v : Valuation) → t ≡ TRUE → truth c t v ≡ true
true_truth c t v e = ap (λ s. truth c s v) e ∙ true_is c.nodes v

-- a clause more that leads to a subtree
pub way_taken : (begun before after p t rest x : Bool) → after ≡ (before || ((p && t) && x)) → (before || (p && ((t || rest) && x))) ≡ begun → (after || (p && (rest && x))) ≡ begun
way_taken begun before after p t rest x h1 h2 = grind arith

-- a branch more
pub branch_taken : (begun before after p b rest : Bool) → after ≡ (before || (p && b)) → (before || (p && (b || rest))) ≡ begun → (after || (p && rest)) ≡ begun
branch_taken begun before after p b rest e h = ap (λ y. y || (p && rest)) e ∙ or_assoc before (p && b) (p && rest) ∙ ap (λ y. before || y) (or_both p b rest) ∙ h

-- what holds of each branch, one after another
pub each_branch : (P : Branch → Type 0) (found : List Branch) → ((i : ℕ) (b : Branch) → slice_get found i ≡ Some b → P b) → AllByRecursion P found
each_branch P [] f = tt
each_branch P (b ∷ found) f = (f 0 b refl, each_branch P found (λ i c e. f (suc i) c e))

-- nothing is left to come
pub nothing_to_come : {X Z : Type 0} (it : IntoIter X Z) → into_iter_len it ≡ 0 → into_iter_items it ≡ []
nothing_to_come it e = nil_from_length (into_iter_items it) (sym it.rest.ok.0 ∙ e)

pub none_taken : (p x c : Bool) → c ≡ (c || (p && (false && x)))
none_taken p x c = sym (ap (λ b. c || b) (and_no p) ∙ or_end c)

-- the terms of two lists are printable
pub each_joined : (xs ys : List MarkerExpression) → AllPrintable xs → AllPrintable ys → AllPrintable (xs ++ ys)
each_joined [] ys a b = b
each_joined (x ∷ xs) ys a b = (a.0, each_joined xs ys a.1 b)
