use Rattle.std.proofs.Common.{◌≡◌, ℕ, Bool, true, false, List, take, drop, bit_xor, length, ◌++◌, ◌-◌, refl, sym, ap, subst, ◌∙◌}
use Rattle.std.specs.List.{Contains}
use Rattle.std.proofs.lemmas.List.{take_rest}
use Rattle.std.proofs.lemmas.Option.{get_or_from_slice_get}
use Rattle.marker_terms.specs.declared.numbered.NumberedTerm.{NumberedTerm}
use Rattle.marker_terms.specs.Numbered.{left_of, number_of}
use Rattle.marker_terms.specs.Endings.{places_of}
use Rattle.marker_terms.specs.Reduction.{is_redundant, stands_for}
use Rattle.marker_terms.proofs.NearLaws.{none_redundant}
use Rattle.marker_terms.proofs.reduction.is_redundant.Goals as goal

-- the clause, by the slices that are lent of it
whole : (xs : List NumberedTerm) (k i : ℕ) → take k xs ++ take (length xs - i) (drop i xs) ≡ take k xs ++ drop i xs
whole xs k i = ap (λ zs. take k xs ++ zs) (take_rest xs i)

pub returns : goal.returns
returns c t e = by_answer c.is_made_up_for-3.result refl
  where
    term : c.index-clause-index.result ≡ t
    term = c.index-clause-index.is ∙ get_or_from_slice_get c.args.clause.now c.args.index t c.index-clause-index.result e

    opposite : c.ending_with-opposite.result.now ≡ places_of c.args.endings.now (bit_xor t.number 1)
    opposite = c.ending_with-opposite.ensures ∙ ap (places_of c.args.endings.now) (c.negation.ensures ∙ ap (λ (x : NumberedTerm). bit_xor x.number 1) term)

    moved : (k : List NumberedTerm) → stands_for number_of c.index-clause-index.result (take c.args.kept c.args.clause.now ++ take (length c.args.clause.now - c.args.index) (drop c.args.index c.args.clause.now)) k ≡ false → stands_for number_of t (take c.args.kept c.args.clause.now ++ drop c.args.index c.args.clause.now) k ≡ false
    moved k h = subst (λ x. stands_for number_of x (take c.args.kept c.args.clause.now ++ drop c.args.index c.args.clause.now) k ≡ false) term (subst (λ zs. stands_for number_of c.index-clause-index.result zs k ≡ false) (whole c.args.clause.now c.args.kept c.args.index) h)

    by_answer : (b : Bool) → c.is_made_up_for-3.result ≡ b → c.is_made_up_for-3.result ≡ is_redundant number_of (left_of c.args.clauses.now) (take c.args.kept c.args.clause.now ++ drop c.args.index c.args.clause.now) t
    by_answer true r = r ∙ sym (subst (λ x. is_redundant number_of (left_of c.args.clauses.now) (take c.args.kept c.args.clause.now ++ drop c.args.index c.args.clause.now) x ≡ true) term (subst (λ zs. is_redundant number_of (left_of c.args.clauses.now) zs c.index-clause-index.result ≡ true) (whole c.args.clause.now c.args.kept c.args.index) (c.is_made_up_for-3.ensures.found r)))
    by_answer false r = r ∙ sym (none_redundant c.args.endings.now c.args.clauses.now t (take c.args.kept c.args.clause.now ++ drop c.args.index c.args.clause.now) c.args.near.now c.requires.listed c.requires.near
        (λ j k h q. moved k (c.is_made_up_for.ensures.none c.if-is_made_up_for.false j k (subst (λ xs. Contains xs j) (sym c.always_listed.ensures) h) q))
        (λ j k h q. moved k (c.is_made_up_for-2.ensures.none c.if-is_made_up_for-2.false j k h q))
        (λ j k h q. moved k (c.is_made_up_for-3.ensures.none r j k (subst (λ xs. Contains xs j) (sym opposite) h) q)))
