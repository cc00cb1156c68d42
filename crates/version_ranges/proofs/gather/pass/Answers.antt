use Rattle.std.proofs.Common.{◌≡◌, set, refl, ap, sym, ◌∙◌, arith}
use Rattle.std.proofs.Math.ListN.{length-set}
use Rattle.std.specs.Ordering.{ordering_reverse}
use Rattle.std.proofs.lemmas.Cmp.{tied_itself}
use Rattle.std.proofs.lemmas.List.{get_or-set_other}
use Rattle.std.proofs.lemmas.Option.{slice_get_read}
use Rattle.version_ranges.specs.Bounds.{all_bounds}
use Rattle.version_ranges.specs.Gather.{IsTurned}
use Rattle.version_ranges.proofs.BoundLaws.{passes_at_place, passes_more, set_passes}
use Rattle.version_ranges.proofs.PointLaws.{cut_total, clone_tied}
use Rattle.version_ranges.proofs.Turns.{past_clone, two_set, unturned}
use Rattle.version_ranges.proofs.gather.pass.Goals as goal

pub returns-then-from-to-clause-turned : goal.returns-then-from-to-clause-turned
returns-then-from-to-clause-turned g c =
    let cut = c.args.cut.now in
    record { len = refl; each = unturned (λ t q r. (r.0 ≡ q.0) × IsTurned g.T.Ord.cmp t cut q.1 r.1) (λ q. (refl, record { first = refl; rest = (cut, tied_itself (cut_total g.met.T.Ord.total) cut, refl) })) _ _ _ c.if-from-to.true }

pub turn-requires : goal.turn-requires
turn-requires g c =
    let o = g.met.T.Ord.total in
    past_clone (cut_total o) c.index_mut.result.now.1.cuts.rest.items c.args.cut.now c.in_ok-clone.field-0
    (clone_tied o g.T.PartialEq.eq g.met.T.Ord.matches_eq c.args.cut.now c.in_ok-clone.field-0 (c.requires.clones _ _ c.in_ok-clone.ensures.cases.0) c.in_ok-clone.ensures.cases.1)
    (c.requires.past c.args.from c.index_mut.result.now (slice_get_read _ _ _ _ c.args.pairs.now.ok.0 c.requires.from c.index_mut.ensures.value))

pub turn-requires-2 : goal.turn-requires-2
turn-requires-2 g c =
    let o = g.met.T.Ord.total in
    past_clone (cut_total o) c.index_mut-2.result.now.1.cuts.rest.items c.args.cut.now c.in_ok-clone-2.field-0
    (clone_tied o g.T.PartialEq.eq g.met.T.Ord.matches_eq c.args.cut.now c.in_ok-clone-2.field-0 (c.requires.clones _ _ c.in_ok-clone-2.ensures.cases.0) c.in_ok-clone-2.ensures.cases.1)
    (c.requires.past c.args.to c.index_mut-2.result.now (slice_get_read _ _ _ _ c.args.pairs.now.ok.0 c.requires.to (c.index_mut-2.ensures.value ∙ get_or-set_other c.args.pairs.now.items c.args.from c.args.to _ _ (λ e. c.if-from-to.false (sym e)))))

pub returns-clause-turned : goal.returns-clause-turned
returns-clause-turned g c =
    let o = g.met.T.Ord.total in
    let cut = c.args.cut.now in
    let tie = clone_tied o g.T.PartialEq.eq g.met.T.Ord.matches_eq cut c.in_ok-clone.field-0 (c.requires.clones _ _ c.in_ok-clone.ensures.cases.0) c.in_ok-clone.ensures.cases.1 in
    let tie-2 = clone_tied o g.T.PartialEq.eq g.met.T.Ord.matches_eq cut c.in_ok-clone-2.field-0 (c.requires.clones _ _ c.in_ok-clone-2.ensures.cases.0) c.in_ok-clone-2.ensures.cases.1 in
    record {
      len = length-set (set c.args.pairs.now.items c.args.from (c.index_mut.result.now.0, c.turn.new.self)) c.args.to (c.index_mut-2.result.now.0, c.turn-2.new.self) ∙ length-set c.args.pairs.now.items c.args.from (c.index_mut.result.now.0, c.turn.new.self);
      each = two_set (λ t q r. (r.0 ≡ q.0) × IsTurned g.T.Ord.cmp t cut q.1 r.1) (λ q. (refl, record { first = refl; rest = (cut, tied_itself (cut_total o) cut, refl) })) c.args.pairs.now.items c.args.from c.args.to
          c.index_mut.result.now (c.index_mut.result.now.0, c.turn.new.self) c.index_mut-2.result.now (c.index_mut-2.result.now.0, c.turn-2.new.self) c.if-from-to.false
          (slice_get_read _ _ _ _ c.args.pairs.now.ok.0 c.requires.from c.index_mut.ensures.value)
          (refl, record { first = c.in_ok-turn.ensures.first; rest = (c.in_ok-clone.field-0, (cut_total o).antisymm cut c.in_ok-clone.field-0 ∙ ap ordering_reverse tie, c.in_ok-turn.ensures.rest) })
          (slice_get_read _ _ _ _ c.args.pairs.now.ok.0 c.requires.to (c.index_mut-2.ensures.value ∙ get_or-set_other c.args.pairs.now.items c.args.from c.args.to _ _ (λ e. c.if-from-to.false (sym e))))
          (refl, record { first = c.in_ok-turn-2.ensures.first; rest = (c.in_ok-clone-2.field-0, (cut_total o).antisymm cut c.in_ok-clone-2.field-0 ∙ ap ordering_reverse tie-2, c.in_ok-turn-2.ensures.rest) });
    }

pub returns-clause-bounds : goal.returns-clause-bounds
returns-clause-bounds g c = λ test k e h.
    let first = passes_at_place (λ q. all_bounds test q.1) c.args.pairs.now.items c.args.from c.index_mut.result.now (omega (arith, c.requires.from, c.args.pairs.now.ok.0)) c.index_mut.ensures.value h in
    let turned = passes_more (λ d. test d.value) c.index_mut.result.now.1.cuts.rest.items c.turn.new.self.cuts.rest.items _ c.in_ok-turn.ensures.rest first (k _ _ c.in_ok-clone.ensures.cases.0 e) in
    let between = set_passes (λ q. all_bounds test q.1) c.args.pairs.now.items c.args.from (c.index_mut.result.now.0, c.turn.new.self) h turned in
    let second = passes_at_place (λ q. all_bounds test q.1) (set c.args.pairs.now.items c.args.from (c.index_mut.result.now.0, c.turn.new.self)) c.args.to c.index_mut-2.result.now
    (omega (arith, c.requires.to, c.args.pairs.now.ok.0, length-set c.args.pairs.now.items c.args.from (c.index_mut.result.now.0, c.turn.new.self))) c.index_mut-2.ensures.value between in
    set_passes (λ q. all_bounds test q.1) (set c.args.pairs.now.items c.args.from (c.index_mut.result.now.0, c.turn.new.self)) c.args.to (c.index_mut-2.result.now.0, c.turn-2.new.self) between
    (passes_more (λ d. test d.value) c.index_mut-2.result.now.1.cuts.rest.items c.turn-2.new.self.cuts.rest.items _ c.in_ok-turn-2.ensures.rest second (k _ _ c.in_ok-clone-2.ensures.cases.0 e))
