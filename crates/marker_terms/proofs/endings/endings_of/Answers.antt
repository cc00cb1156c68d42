use Rattle.std.proofs.Common.{◌≡◌, ◌⊎◌, inl, inr, sym, ap, subst, ◌∙◌, arith}
use Rattle.std.proofs.lemmas.Bool.{cases_eq}
use Rattle.marker_terms.specs.Endings.{Lists}
use Rattle.marker_terms.specs.Numbered.{clause_at, terms_of}
use Rattle.marker_terms.proofs.LeftLaws.{clause_there, clause_within}
use Rattle.marker_terms.proofs.endings.endings_of.Goals as goal

pub loop-place-preserved : goal.loop-place-preserved
loop-place-preserved c j d l e = by_place (cases_eq j c.loop-place.place)
  where
    by_place : (j ≡ c.loop-place.place) ⊎ (j ≡ c.loop-place.place → ⊥) → Lists c.list_place.new.endings d j
    by_place (inl q) =
        subst (Lists c.list_place.new.endings d) (sym q) (c.in_ok-list_place.ensures.listed d
        (ap terms_of c.index-clauses-place.is ∙ sym (clause_there c.args.clauses.now c.loop-place.place c.index-clauses-place.result c.loop-place-test.true) ∙ ap (clause_at c.args.clauses.now) (sym q) ∙ e))
    by_place (inr ne) = c.in_ok-list_place.ensures.kept d j (c.loop-place.invariant j d (omega arith) e)

pub returns : goal.returns
returns c j d e = let l = clause_within c.args.clauses.now j d e in c.loop-place.invariant j d (omega (arith, l)) e
