use Rattle.std.proofs.Common.{◌≡◌, ◌++◌, [], ◌∷◌, Some, map, sym, ap, subst, ◌∙◌}
use Rattle.std.specs.List.{AllByRecursion}
use Rattle.std.specs.Vec.Iter.{into_iter_items}
use Rattle.std.proofs.lemmas.List.{append_assoc, map_push}
use Rattle.std.proofs.lemmas.List.Elements.{filter_map-append}
use Rattle.marker_terms.specs.Clauses.{clauses_of}
use Rattle.marker_terms.specs.Numbered.{left_of, terms_of}
use Rattle.marker_terms.specs.Numbering.{AreNumbered, expression_of}
use Rattle.marker_terms.proofs.NumberLaws.{each_more, push_each}
use Rattle.marker_terms.proofs.numbering.numbered_clauses.Goals as goal

pub loop-clause-preserved : goal.loop-clause-preserved
loop-clause-preserved c = record {
  terms =
      ap (λ ts. map (map expression_of) ts ++ clauses_of (into_iter_items c.next.new.self)) pushed
      ∙ ap (λ ts. ts ++ clauses_of (into_iter_items c.next.new.self)) (map_push (map expression_of) (left_of c.loop-clause.numbered.items) c.in_ok-terms.terms.items)
      ∙ append_assoc (map (map expression_of) (left_of c.loop-clause.numbered.items)) (map expression_of c.in_ok-terms.terms.items ∷ []) (clauses_of (into_iter_items c.next.new.self))
      ∙ ap (λ t. map (map expression_of) (left_of c.loop-clause.numbered.items) ++ t ∷ clauses_of (into_iter_items c.next.new.self)) c.in_ok-terms.ensures.terms
      ∙ ap (λ ts. map (map expression_of) (left_of c.loop-clause.numbered.items) ++ clauses_of ts) (sym c.in-Some.ensures.steps.0)
      ∙ c.loop-clause.invariant.terms;
  numbers = subst (AllByRecursion (AreNumbered c.numbered_clause.new.numbering.names.items)) (sym pushed)
      (push_each (AreNumbered c.numbered_clause.new.numbering.names.items) (left_of c.loop-clause.numbered.items) c.in_ok-terms.terms.items
      (each_more c.loop-clause.numbering.names.items c.numbered_clause.new.numbering.names.items (left_of c.loop-clause.numbered.items) c.in_ok-terms.ensures.kept c.loop-clause.invariant.numbers) c.in_ok-terms.ensures.numbered);
}
  where
    pushed : left_of c.push.new.self.items ≡ left_of c.loop-clause.numbered.items ++ c.in_ok-terms.terms.items ∷ []
    pushed = ap left_of c.in_ok-push.ensures.items ∙ filter_map-append terms_of c.loop-clause.numbered.items (Some c.in_ok-terms.terms ∷ [])
