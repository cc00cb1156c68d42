-- A substring test or extra that a formula does not have does not change its truth, so those of its
-- marker are the formula's.
use Rattle.std.proofs.Common.{◌≡◌, Bool, true, false, ◌&&◌, ◌||◌, ◌⊎◌, inl, inr, refl, sym, ◌∙◌, subst, arith}
use Rattle.std.specs.Ordering.{is_eq, is_lt}
use Rattle.std.specs.declared.cmp.Ordering.{Ordering}
use Rattle.std.specs.declared.cmp.Ordering.TheVariants.{Equal}
use Rattle.marker_environment.specs.Valuation.{Valuation}
use Rattle.marker_parts.specs.Expression.{Test, holds}
use Rattle.marker_grammar.specs.Formula.{Formula, test, both, either, truth_of}
use Rattle.marker_nodes.specs.Variable.{Variable, variable_cmp, mix}
use Rattle.marker_nodes.proofs.VariableLaws.{one_variable}
use Rattle.marker_graph.specs.Tree.{IsResidue, DependsOn}
use Rattle.marker_view.specs.Readable.{AllPlain, IsPlainTest, IsPlainVariable}
use Rattle.marker_view.proofs.Asked.{asked, asked_plain}

tied : (r : Ordering) → is_eq r ≡ true → r ≡ Equal
tied r h1 = grind arith

-- the variables before y are fixed, and only x is changed
module _ (x y : Variable) (held v w : Valuation) where
  abbrev moved : Valuation
  moved = mix (λ z. is_eq (variable_cmp x z)) v w

  abbrev around : Valuation → Valuation
  around u = mix (λ z. is_lt (variable_cmp z y)) held u

  unasked : (t : Test) → is_eq (variable_cmp x (asked t)) ≡ false → holds t (around moved) ≡ holds t (around w)
  unasked t h1 = grind arith

-- a formula of plain comparisons depends on x, which is plain then, or is not changed by it
module _ (x y : Variable) (held : Valuation) where
  abbrev pub IsUnmoved : Formula → Type 0
  IsUnmoved g = (v w : Valuation) → truth_of g (mix (λ z. is_lt (variable_cmp z y)) held (mix (λ z. is_eq (variable_cmp x z)) v w)) ≡ truth_of g (mix (λ z. is_lt (variable_cmp z y)) held w)

  by_test : (t : Test) → IsPlainTest t → (b : Bool) → is_eq (variable_cmp x (asked t)) ≡ b → IsPlainVariable x ⊎ IsUnmoved (test t)
  by_test t p true e = inl (subst IsPlainVariable (sym (one_variable x (asked t) (tied (variable_cmp x (asked t)) e))) (asked_plain t p))
  by_test t p false e = inr (λ v w. unasked x y held v w t e)

  joined : (op : Bool → Bool → Bool) (f g h : Formula) → ((v : Valuation) → truth_of h v ≡ op (truth_of f v) (truth_of g v)) → IsPlainVariable x ⊎ IsUnmoved f → IsPlainVariable x ⊎ IsUnmoved g → IsPlainVariable x ⊎ IsUnmoved h
  joined op f g h h1 h2 h3 = grind arith

  pub asks_or_not : (g : Formula) → AllPlain g → IsPlainVariable x ⊎ IsUnmoved g
  asks_or_not (test t) p = by_test t p (is_eq (variable_cmp x (asked t))) refl
  asks_or_not (both f g) p = joined (λ a b. a && b) f g (both f g) (λ v. refl) (asks_or_not f p.0) (asks_or_not g p.1)
  asks_or_not (either f g) p = joined (λ a b. a || b) f g (either f g) (λ v. refl) (asks_or_not f p.0) (asks_or_not g p.1)

-- so a residue of the formula depends on no other variables
pub depended_is_plain : (g : Formula) → AllPlain g → (f s : Valuation → Bool) → ((v : Valuation) → f v ≡ truth_of g v) → (y : Variable) (held : Valuation) → IsResidue f y held s → (x : Variable) → DependsOn s x → IsPlainVariable x
depended_is_plain g p f s means y held residue x (v, w, differ) = by_cases (asks_or_not x y held g p)
  where
    by_cases : IsPlainVariable x ⊎ IsUnmoved x y held g → IsPlainVariable x
    by_cases (inl h) = h
    by_cases (inr still) = absurd (differ (residue _ ∙ means _ ∙ still v w ∙ sym (means _) ∙ sym (residue _)))
