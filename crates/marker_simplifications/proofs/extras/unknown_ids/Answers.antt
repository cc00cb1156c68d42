use Rattle.std.proofs.Common.{get_or, sym, subst, arith}
use Rattle.std.specs.Prelude.{All}
use Rattle.std.proofs.lemmas.List.Elements.{All-push}
use Rattle.std.proofs.lemmas.Option.{slice_get-get_or, slice_get_within}
use Rattle.marker_simplifications.specs.Granting.{IsWanted}
use Rattle.marker_simplifications.proofs.GrantSteps.{settled_next, wanted_below, not_none}
use Rattle.marker_simplifications.proofs.extras.unknown_ids.Goals as goal

pub loop-id-preserved-in-Some : goal.loop-id-preserved-in-Some
loop-id-preserved-in-Some c = record {
  wanted = c.loop-id.invariant.wanted;
  none = λ e. settled_next c.args.known.now.entries c.args.ids.now c.loop-id.id-index _ c.loop-id-test.true (c.loop-id.invariant.none e) c.in-Some.ensures.settled;
}

pub loop-id-preserved : goal.loop-id-preserved
loop-id-preserved c = record {
  wanted = λ nodes parent h.
      subst (All (IsWanted c.args.known.now.entries parent)) (sym c.in_ok-push.ensures.ok)
      (All-push (IsWanted c.args.known.now.entries parent) c.loop-id.wanted.items c.negate.result (c.loop-id.invariant.wanted nodes parent h)
      (wanted_below c.args.known.now.entries parent (get_or c.args.ids.now c.loop-id.id-index _) c.negate.result ((h c.loop-id.id-index _ (slice_get-get_or c.args.ids.now c.loop-id.id-index _ c.loop-id-test.true)).1) c.negate.ensures c.in_default.ensures.unknown));
  none = λ e. absurd (not_none c.loop-id.wanted.items _ c.negate.result c.in_ok-push.ensures.ok e);
}

pub returns-clause-none : goal.returns-clause-none
returns-clause-none c = λ e i t f. c.loop-id.invariant.none e i t (let w = slice_get_within c.args.ids.now i t f in omega (arith, w, c.loop-id-test.false)) f
