use Rattle.std.proofs.Common.{◌++◌, [], ◌∷◌, map, sym, ap, subst, ◌∙◌}
use Rattle.std.specs.Vec.Iter.{into_iter_items}
use Rattle.std.proofs.lemmas.List.{append_assoc, map_push}
use Rattle.marker_terms.specs.Numbering.{AreNumbered, expression_of}
use Rattle.marker_terms.proofs.NumberLaws.{all_more, extends_more, push_numbered}
use Rattle.marker_terms.proofs.numbering.numbered_clause.Goals as goal

pub loop-expression-preserved : goal.loop-expression-preserved
loop-expression-preserved c = record {
  terms =
      ap (λ ts. map expression_of ts ++ into_iter_items c.next.new.self) c.in_ok-push_large.ensures.items
      ∙ ap (λ ts. ts ++ into_iter_items c.next.new.self) (map_push expression_of c.loop-expression.terms.items (record { number = c.in_ok-number.number; expression = c.in-Some.expression }))
      ∙ append_assoc (map expression_of c.loop-expression.terms.items) (c.in-Some.expression ∷ []) (into_iter_items c.next.new.self)
      ∙ ap (λ ts. map expression_of c.loop-expression.terms.items ++ ts) (sym c.in-Some.ensures.steps.0)
      ∙ c.loop-expression.invariant.terms;
  numbered = subst (AreNumbered c.number.new.numbering.names.items) (sym c.in_ok-push_large.ensures.items)
      (push_numbered c.number.new.numbering.names.items c.loop-expression.terms.items (record { number = c.in_ok-number.number; expression = c.in-Some.expression })
      (all_more c.loop-expression.numbering.names.items c.number.new.numbering.names.items c.loop-expression.terms.items c.in_ok-number.ensures.kept c.loop-expression.invariant.numbered) c.in_ok-number.ensures.numbered);
  kept = extends_more c.args.numbering.now.names.items c.loop-expression.numbering.names.items c.number.new.numbering.names.items c.loop-expression.invariant.kept c.in_ok-number.ensures.kept;
}
