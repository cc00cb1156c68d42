use Rattle.std.proofs.Common.{◌≡◌, Some, length, refl, subst}
use Rattle.std.specs.Prelude.{slice_get}
use Rattle.std.proofs.lemmas.Option.{slice_get_read}
use Rattle.marker_terms.proofs.NumberLaws.{even_numbered, odd_numbered}
use Rattle.marker_terms.proofs.numbering.known_number.Goals as goal

pub returns-then-is_same : goal.returns-then-is_same
returns-then-is_same c =
    even_numbered c.args.numbering.now.names.items c.in_ok-pair.field-0.now c.in_ok-name.name.now c.args.term.now
    (subst (λ xs. slice_get xs c.in_ok-pair.field-0.now ≡ Some c.in_ok-name.name.now) c.deref-2.ensures.value (slice_get_read c.deref-2.result.now (length c.deref-2.result.now) c.in_ok-pair.field-0.now c.in_ok-name.name.now refl c.in_ok-name.ensures.lookup.3.0 c.in_ok-name.ensures.lookup.1))
    (c.is_same.ensures c.if-is_same.true)

pub returns-then-is_negation : goal.returns-then-is_negation
returns-then-is_negation c =
    odd_numbered c.args.numbering.now.names.items c.in_ok-pair.field-0.now c.in_ok-name.name.now c.args.term.now
    (subst (λ xs. slice_get xs c.in_ok-pair.field-0.now ≡ Some c.in_ok-name.name.now) c.deref-2.ensures.value (slice_get_read c.deref-2.result.now (length c.deref-2.result.now) c.in_ok-pair.field-0.now c.in_ok-name.name.now refl c.in_ok-name.ensures.lookup.3.0 c.in_ok-name.ensures.lookup.1))
    (c.is_negation.ensures c.if-is_negation.true)
