-- The runs of the formulas on the stack, while a tree is made of a formula.
use Rattle.std.proofs.Common.{◌≡◌, suc, ◌≤◌, Bool, true, false, List, [], ◌∷◌, ◌++◌, length, reverse, ◌⊎◌, inl, inr, refl, sym, ap, ◌∙◌, subst, arith}
use Rattle.std.proofs.lemmas.List.{reverse-append, length-reverse}
use Rattle.marker_environment.specs.Valuation.{Valuation}
use Rattle.marker_diagrams.specs.Id.{signed}
use Rattle.marker_parts.specs.Expression.{Test, holds}
use Rattle.pep508_markers.specs.declared.run.Connective.{Connective}
use Rattle.pep508_markers.specs.declared.run.Connective.TheVariants.{And, Or}
use Rattle.pep508_markers.specs.declared.run.Run.{Run}
use Rattle.marker_graph.specs.declared.tree.MarkerTree.{MarkerTree}
use Rattle.marker_graph.specs.Contents.{Contents, IsHeld, IsKept, truth}
pub use Rattle.marker_graph.proofs.KeptLaws.{kept_both as kept_on}
use Rattle.marker_grammar.specs.Formula.{Formula}
use Rattle.marker_grammar.specs.Formula as formulas
use Rattle.marker_grammar.specs.Postfix.{stack_after, top_of}
use Rattle.marker_grammar.specs.Postfix as symbols
use Rattle.pep508_markers.specs.Trees.{joins, neutral, symbol, trees_of, AreHeld, truth_under, Mean, RunsOf}

-- a tree that was in the interner is still there, with its meaning
pub held_kept : (c d : Contents) (t : MarkerTree) → IsKept c d → IsHeld c t → IsHeld d t
held_kept c d t kept held = omega (arith, held, kept.nodes.longer)

pub truth_kept : (c d : Contents) (t : MarkerTree) → IsKept c d → IsHeld c t → (v : Valuation) → truth d t v ≡ truth c t v
truth_kept c d t kept held v = ap (signed t.id.complement) (kept.nodes.truth t.id.place v held)

-- a connective joins in any order
joins_nothing : (k : Connective) (x : Bool) → joins k x (neutral k) ≡ x
joins_nothing And true = refl
joins_nothing And false = refl
joins_nothing Or true = refl
joins_nothing Or false = refl

nothing_joins : (k : Connective) (x : Bool) → joins k (neutral k) x ≡ x
nothing_joins And x = refl
nothing_joins Or x = refl

pub joins_turned : (k : Connective) (x y : Bool) → joins k x y ≡ joins k y x
joins_turned And true true = refl
joins_turned And true false = refl
joins_turned And false true = refl
joins_turned And false false = refl
joins_turned Or true true = refl
joins_turned Or true false = refl
joins_turned Or false true = refl
joins_turned Or false false = refl

pub joins_apart : (k : Connective) (x y z : Bool) → joins k (joins k x y) z ≡ joins k x (joins k y z)
joins_apart And true y z = refl
joins_apart And false y z = refl
joins_apart Or true y z = refl
joins_apart Or false y z = refl

pub truth_of_both : (c : Contents) (k : Connective) (xs ys : List MarkerTree) (v : Valuation) → truth_under c k (xs ++ ys) v ≡ joins k (truth_under c k xs v) (truth_under c k ys v)
truth_of_both c k [] ys v = sym (nothing_joins k (truth_under c k ys v))
truth_of_both c k (t ∷ xs) ys v = ap (joins k (truth c t v)) (truth_of_both c k xs ys v) ∙ sym (joins_apart k (truth c t v) (truth_under c k xs v) (truth_under c k ys v))

both_held : (c : Contents) (xs ys : List MarkerTree) → AreHeld c xs → AreHeld c ys → AreHeld c (xs ++ ys)
both_held c [] ys p q = q
both_held c (t ∷ xs) ys p q = (p.0, both_held c xs ys p.1 q)

pub truth_of_one : (c : Contents) (k : Connective) (t : MarkerTree) (v : Valuation) → truth_under c k (t ∷ []) v ≡ truth c t v
truth_of_one c k t v = joins_nothing k (truth c t v)

pub all_kept : (c d : Contents) (trees : List MarkerTree) → IsKept c d → AreHeld c trees → AreHeld d trees
all_kept c d [] kept h = h
all_kept c d (t ∷ trees) kept h = (held_kept c d t kept h.0, all_kept c d trees kept h.1)

pub truths_under_kept : (c d : Contents) (k : Connective) (trees : List MarkerTree) → IsKept c d → AreHeld c trees → (v : Valuation) → truth_under d k trees v ≡ truth_under c k trees v
truths_under_kept c d k [] kept h v = refl
truths_under_kept c d k (t ∷ trees) kept h v = λ i. joins k (truth_kept c d t kept h.0 v i) (truths_under_kept c d k trees kept h.1 v i)

-- two trees at the front are joined to one at the end
module _ (c d : Contents) (k : Connective) (before mid rest new : List MarkerTree) (left right t : MarkerTree) (kept : IsKept c d)
    (first : before ≡ left ∷ mid) (second : mid ≡ right ∷ rest) (last : new ≡ rest ++ (t ∷ [])) (held : AreHeld c before) where
  in_front : before ≡ left ∷ right ∷ rest
  in_front = first ∙ ap (λ (x : List MarkerTree). left ∷ x) second

  held_front : AreHeld c (left ∷ right ∷ rest)
  held_front = subst (AreHeld c) in_front held

  pub queue_held : IsHeld d t → AreHeld d new
  queue_held one = subst (AreHeld d) (sym last) (both_held d rest (t ∷ []) (all_kept c d rest kept held_front.1.1) (one, _))

  pub queue_joined : ((v : Valuation) → truth d t v ≡ joins k (truth d left v) (truth d right v)) → (v : Valuation) → truth_under d k new v ≡ truth_under c k before v
  queue_joined means v =
      ap (λ (x : List MarkerTree). truth_under d k x v) last
      ∙ truth_of_both d k rest (t ∷ []) v
      ∙ joins_turned k (truth_under d k rest v) (truth_under d k (t ∷ []) v)
      ∙ (λ i. joins k ((truth_of_one d k t v ∙ means v) i) (truth_under d k rest v))
      ∙ joins_apart k (truth d left v) (truth d right v) (truth_under d k rest v)
      ∙ truths_under_kept c d k (left ∷ right ∷ rest) kept held_front v
      ∙ sym (ap (λ (x : List MarkerTree). truth_under c k x v) in_front)

-- the trees of two runs
queues_held : (c : Contents) (xs ys zs : List MarkerTree) → (zs ≡ xs ++ ys) ⊎ (zs ≡ ys ++ xs) → AreHeld c xs → AreHeld c ys → AreHeld c zs
queues_held c xs ys zs (inl e) p q = subst (AreHeld c) (sym e) (both_held c xs ys p q)
queues_held c xs ys zs (inr e) p q = subst (AreHeld c) (sym e) (both_held c ys xs q p)

queues_joined : (c : Contents) (k : Connective) (xs ys zs : List MarkerTree) → (zs ≡ xs ++ ys) ⊎ (zs ≡ ys ++ xs) → (v : Valuation) → truth_under c k zs v ≡ joins k (truth_under c k xs v) (truth_under c k ys v)
queues_joined c k xs ys zs (inl e) v = ap (λ (x : List MarkerTree). truth_under c k x v) e ∙ truth_of_both c k xs ys v
queues_joined c k xs ys zs (inr e) v = ap (λ (x : List MarkerTree). truth_under c k x v) e ∙ truth_of_both c k ys xs v ∙ joins_turned k (truth_under c k ys v) (truth_under c k xs v)

mean_kept : (c d : Contents) (stack : List Formula) (runs : List Run) → IsKept c d → Mean c stack runs → Mean d stack runs
mean_kept c d [] [] kept m = m
mean_kept c d [] (r ∷ runs) kept m = absurd m
mean_kept c d (f ∷ stack) [] kept m = absurd m
mean_kept c d (f ∷ stack) (r ∷ runs) kept m =
    (all_kept c d (trees_of r) kept m.0, ((λ v. truths_under_kept c d r.connective (trees_of r) kept m.0 v ∙ m.1.0 v), mean_kept c d stack runs kept m.1.1))

reverse-last : (runs : List Run) (r : Run) → reverse (runs ++ (r ∷ [])) ≡ r ∷ reverse runs
reverse-last runs r = reverse-append runs (r ∷ [])

put : (c : Contents) (stack : List Formula) (old : List Run) (r : Run) {new : List Run} → new ≡ old ++ (r ∷ []) → Mean c stack (r ∷ reverse old) → RunsOf c stack new
put c stack old r added m = subst (Mean c stack) (sym (ap reverse added ∙ reverse-last old r)) m

-- a test
pub runs_test : (c d : Contents) (test : Test) (stack : List Formula) (old new : List Run) (r : Run) (t : MarkerTree) → IsKept c d → RunsOf c stack old → IsHeld d t → ((v : Valuation) → truth d t v ≡ holds test v) → new ≡ old ++ (r ∷ []) → (trees_of r) ≡ t ∷ [] → RunsOf d (stack_after (symbols.test test) stack) new
runs_test c d test stack old new r t kept m held means added only =
    put d (formulas.test test ∷ stack) old r added (
      subst (AreHeld d) (sym only) (held, _),
      ((λ v. ap (λ (x : List MarkerTree). truth_under d r.connective x v) only ∙ truth_of_one d r.connective t v ∙ means v), mean_kept c d stack (reverse old) kept m),
    )

-- two runs on top
module _ (c : Contents) (left right : Run) (old mid : List Run) (popped : reverse old ≡ right ∷ left ∷ reverse mid) where
  on_top : (stack : List Formula) → RunsOf c stack old → Mean c stack (right ∷ left ∷ reverse mid)
  on_top stack m = subst (Mean c stack) popped m

  right_in : (stack : List Formula) → Mean c stack (right ∷ left ∷ reverse mid) → AreHeld c (trees_of right)
  right_in [] m = absurd m
  right_in (g ∷ stack) m = m.0

  left_in : (stack : List Formula) → Mean c stack (right ∷ left ∷ reverse mid) → AreHeld c (trees_of left)
  left_in [] m = absurd m
  left_in (g ∷ []) m = absurd m.1.1
  left_in (g ∷ f ∷ stack) m = m.1.1.0

  pub right_held : (stack : List Formula) → RunsOf c stack old → AreHeld c (trees_of right)
  right_held stack m = right_in stack (on_top stack m)

  pub left_held : (stack : List Formula) → RunsOf c stack old → AreHeld c (trees_of left)
  left_held stack m = left_in stack (on_top stack m)

  -- their trees as ones that the connective joins, one after the other, and then together
  module _ (k : Connective) (d e : Contents) (xs ys : List MarkerTree) (r : Run) (new : List Run) (kept_left : IsKept c d) (kept_right : IsKept d e)
      (held_left : AreHeld d xs) (held_right : AreHeld e ys)
      (means_left : (v : Valuation) → truth_under d k xs v ≡ truth_under c left.connective (trees_of left) v)
      (means_right : (v : Valuation) → truth_under e k ys v ≡ truth_under d right.connective (trees_of right) v)
      (both : ((trees_of r) ≡ xs ++ ys) ⊎ ((trees_of r) ≡ ys ++ xs)) (under : r.connective ≡ k) (added : new ≡ mid ++ (r ∷ [])) where
    kept : IsKept c e
    kept = kept_on c d e kept_left kept_right

    held : AreHeld e (trees_of r)
    held = queues_held e xs ys (trees_of r) both (all_kept d e xs kept_right held_left) held_right

    means : AreHeld c (trees_of right) → (v : Valuation) → truth_under e r.connective (trees_of r) v ≡ joins k (truth_under c left.connective (trees_of left) v) (truth_under c right.connective (trees_of right) v)
    means h v =
        ap (λ (x : Connective). truth_under e x (trees_of r) v) under
        ∙ queues_joined e k xs ys (trees_of r) both v
        ∙ (λ i. joins k ((truths_under_kept d e k xs kept_right held_left v ∙ means_left v) i) ((means_right v ∙ truths_under_kept c d right.connective (trees_of right) kept_left h v) i))

    says : (k : Connective) (stack : List Formula) → ((v : Valuation) → truth_under e r.connective (trees_of r) v ≡ joins k (truth_under c left.connective (trees_of left) v) (truth_under c right.connective (trees_of right) v))
        → Mean c stack (right ∷ left ∷ reverse mid) → RunsOf e (stack_after (symbol k) stack) new
    says And [] same m = absurd m
    says And (g ∷ []) same m = absurd m.1.1
    says And (g ∷ f ∷ stack) same m = put e (formulas.both f g ∷ stack) mid r added (held, ((λ v. same v ∙ (λ i. joins And (m.1.1.1.0 v i) (m.1.0 v i))), mean_kept c e stack (reverse mid) kept m.1.1.1.1))
    says Or [] same m = absurd m
    says Or (g ∷ []) same m = absurd m.1.1
    says Or (g ∷ f ∷ stack) same m = put e (formulas.either f g ∷ stack) mid r added (held, ((λ v. same v ∙ (λ i. joins Or (m.1.1.1.0 v i) (m.1.0 v i))), mean_kept c e stack (reverse mid) kept m.1.1.1.1))

    pub runs_joined : (stack : List Formula) → RunsOf c stack old → RunsOf e (stack_after (symbol k) stack) new
    runs_joined stack m = says k stack (means (right_held stack m)) (on_top stack m)

-- not two runs
as_many : (c : Contents) (stack : List Formula) (runs : List Run) → Mean c stack runs → length stack ≡ length runs
as_many c [] [] m = refl
as_many c [] (r ∷ runs) m = absurd m
as_many c (f ∷ stack) [] m = absurd m
as_many c (f ∷ stack) (r ∷ runs) m = ap suc (as_many c stack runs m.1.1)

few : (c : Contents) (stack : List Formula) (old : List Run) → RunsOf c stack old → length old ≤ 1 → length stack ≤ 1
few c stack old m one = omega (arith, as_many c stack (reverse old) m, length-reverse old, one)

none_left : (c : Contents) {new : List Run} → new ≡ [] → RunsOf c [] new
none_left c none = subst (Mean c []) (sym (ap reverse none)) _

-- at the end the run on top is that of the formula
top_in : (c : Contents) (stack : List Formula) (r : Run) (rest : List Run) → Mean c stack (r ∷ rest) → AreHeld c (trees_of r) × ((v : Valuation) → truth_under c r.connective (trees_of r) v ≡ formulas.truth (top_of stack) v)
top_in c [] r rest m = absurd m
top_in c (f ∷ stack) r rest m = (m.0, m.1.0)

pub run_on_top : (c : Contents) (stack : List Formula) (old new : List Run) (r : Run) → RunsOf c stack old → old ≡ new ++ (r ∷ []) → AreHeld c (trees_of r) × ((v : Valuation) → truth_under c r.connective (trees_of r) v ≡ formulas.truth (top_of stack) v)
run_on_top c stack old new r m last = top_in c stack r (reverse new) (subst (Mean c stack) (ap reverse last ∙ reverse-last new r) m)

nothing_in : (c : Contents) (stack : List Formula) → Mean c stack [] → (v : Valuation) → formulas.truth (top_of stack) v ≡ true
nothing_in c [] m v = refl
nothing_in c (f ∷ stack) m v = absurd m

pub nothing_says_true : (c : Contents) (stack : List Formula) (old : List Run) → RunsOf c stack old → old ≡ [] → (v : Valuation) → formulas.truth (top_of stack) v ≡ true
nothing_says_true c stack old m none v = nothing_in c stack (subst (Mean c stack) (ap reverse none) m) v
