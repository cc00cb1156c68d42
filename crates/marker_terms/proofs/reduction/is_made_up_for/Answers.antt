use Rattle.std.proofs.Common.{◌≡◌, ◌++◌, Some, get_or, refl, sym, ◌∙◌, subst, arith}
use Rattle.std.proofs.lemmas.List.{get_or_default}
use Rattle.marker_terms.specs.Numbered.{clause_at, number_of}
use Rattle.marker_terms.specs.Reduction.{stands_for}
use Rattle.marker_terms.proofs.LeftLaws.{any_there}
use Rattle.marker_terms.proofs.reduction.is_made_up_for.Goals as goal

pub returns-then-stands_at-clause-found : goal.returns-then-stands_at-clause-found
returns-then-stands_at-clause-found c _ =
    any_there (stands_for number_of c.args.term.now (c.args.kept.now ++ c.args.rest.now)) c.args.clauses.now (get_or c.args.places.now c.loop-place.place-index 0) _ refl (sym c.stands_at.ensures ∙ c.if-stands_at.true)

pub returns-clause-none : goal.returns-clause-none
returns-clause-none c _ j other (k, l, q) e =
    let r : get_or c.args.places.now k 0 ≡ j = get_or_default c.args.places.now k 0 j l ∙ q in
    c.loop-place.invariant k other (omega arith) (subst (λ n. clause_at c.args.clauses.now n ≡ Some other) (sym r) e)
