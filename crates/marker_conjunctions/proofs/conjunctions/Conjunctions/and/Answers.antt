use Rattle.std.proofs.Common.{◌+◌, inr, sym, ◌∙◌, subst}
use Rattle.marker_diagrams.specs.Id.{place_of}
use Rattle.marker_diagrams.proofs.IdLaws.{same_id_is}
use Rattle.marker_conjunctions.specs.Contents.{contents}
use Rattle.marker_conjunctions.specs.Step.{IsSettledAnd}
use Rattle.marker_conjunctions.proofs.ReleaseLaws.{well_both, well_itself}
use Rattle.marker_conjunctions.proofs.StepLaws.{pair_itself, spends_nothing, waiting_pairs, round_spends, round_fewer}
use Rattle.marker_conjunctions.proofs.conjunctions.Conjunctions.and.Goals as goal

pub loop-pending-init : goal.loop-pending-init
loop-pending-init c = record {
  kept = well_itself (contents c.args.nodes.now c.args.self.now) c.requires.held.rules;
  spent = spends_nothing (contents c.args.nodes.now c.args.self.now) c.args.nodes.now (place_of c.args.a + place_of c.args.b + 1) c.args.a c.args.b;
  pairs = rw c.new-pending.ensures.items tt;
  pair = pair_itself c.args.nodes.now c.args.a c.args.b c.requires.held.left c.requires.held.right;
  unsettled = c.in_default.ensures.unsettled;
}

pub returns-in_err-id-clause-spends : goal.returns-in_err-id-clause-spends
returns-in_err-id-clause-spends c =
    round_spends (contents c.args.nodes.now c.args.self.now) (contents c.loop-pending.nodes c.loop-pending.self) (contents c.compute.new.nodes c.compute.new.self) c.loop-pending.invariant.kept.kept c.requires.held.rules
    c.args.a c.args.b c.loop-pending.next (c.in_ok-left.left, c.in_ok-left.right) c.loop-pending.invariant.pair c.in_ok-left.ensures.pair c.loop-pending.invariant.spent c.compute.ensures.spends

pub loop-pending-smaller-in-Some-next_open : goal.loop-pending-smaller-in-Some-next_open
loop-pending-smaller-in-Some-next_open c =
    round_fewer (contents c.args.nodes.now c.args.self.now) (contents c.loop-pending.nodes c.loop-pending.self) (contents c.compute.new.nodes c.compute.new.self) c.loop-pending.invariant.kept.kept c.requires.held.rules
    c.args.a c.args.b c.loop-pending.next (c.in_ok-left.left, c.in_ok-left.right) c.loop-pending.invariant.pair c.in_ok-left.ensures.pair c.in_ok-id.ensures.kept.remembers c.in_ok-left.ensures.due.unsettled c.in_ok-id.ensures.known.known

pub loop-pending-preserved-in-Some-next_open : goal.loop-pending-preserved-in-Some-next_open
loop-pending-preserved-in-Some-next_open c =
    let waiting =
    waiting_pairs (contents c.args.nodes.now c.args.self.now) (contents c.loop-pending.nodes c.loop-pending.self) c.loop-pending.invariant.kept.kept c.requires.held.rules c.args.a c.args.b c.loop-pending.next c.loop-pending.invariant.pair
    c.loop-pending.pending.items c.descend.new.pending.items c.loop-pending.invariant.pairs c.in_ok-left.ensures.waits in
    let left = c.in-Some-next_open.ensures.pairs c.args.nodes.now c.args.a c.args.b waiting in
    record {
      kept = well_both (contents c.args.nodes.now c.args.self.now) (contents c.loop-pending.nodes c.loop-pending.self) (contents c.compute.new.nodes c.compute.new.self) c.loop-pending.invariant.kept c.in_ok-id.ensures.kept;
      spent = round_spends (contents c.args.nodes.now c.args.self.now) (contents c.loop-pending.nodes c.loop-pending.self) (contents c.compute.new.nodes c.compute.new.self) c.loop-pending.invariant.kept.kept c.requires.held.rules
          c.args.a c.args.b c.loop-pending.next (c.in_ok-left.left, c.in_ok-left.right) c.loop-pending.invariant.pair c.in_ok-left.ensures.pair c.loop-pending.invariant.spent c.in_ok-id.ensures.spends;
      pairs = left.0;
      pair = left.1;
      unsettled = c.in-Some-next_open.ensures.unsettled;
    }

pub returns-in-Some-look_up-clause-spends : goal.returns-in-Some-look_up-clause-spends
returns-in-Some-look_up-clause-spends c =
    round_spends (contents c.args.nodes.now c.args.self.now) (contents c.loop-pending.nodes c.loop-pending.self) (contents c.compute.new.nodes c.compute.new.self) c.loop-pending.invariant.kept.kept c.requires.held.rules
    c.args.a c.args.b c.loop-pending.next (c.in_ok-left.left, c.in_ok-left.right) c.loop-pending.invariant.pair c.in_ok-left.ensures.pair c.loop-pending.invariant.spent c.in_ok-id.ensures.spends

pub loop-pending-smaller : goal.loop-pending-smaller
loop-pending-smaller c =
    round_fewer (contents c.args.nodes.now c.args.self.now) (contents c.loop-pending.nodes c.loop-pending.self) (contents c.compute.new.nodes c.compute.new.self) c.loop-pending.invariant.kept.kept c.requires.held.rules
    c.args.a c.args.b c.loop-pending.next (c.in_ok-left.left, c.in_ok-left.right) c.loop-pending.invariant.pair c.in_ok-left.ensures.pair c.in_ok-id.ensures.kept.remembers c.in_ok-left.ensures.due.unsettled c.in_ok-id.ensures.known.known

pub loop-pending-preserved : goal.loop-pending-preserved
loop-pending-preserved c =
    let waiting =
    waiting_pairs (contents c.args.nodes.now c.args.self.now) (contents c.loop-pending.nodes c.loop-pending.self) c.loop-pending.invariant.kept.kept c.requires.held.rules c.args.a c.args.b c.loop-pending.next c.loop-pending.invariant.pair
    c.loop-pending.pending.items c.descend.new.pending.items c.loop-pending.invariant.pairs c.in_ok-left.ensures.waits in
    record {
      kept = well_both (contents c.args.nodes.now c.args.self.now) (contents c.loop-pending.nodes c.loop-pending.self) (contents c.compute.new.nodes c.compute.new.self) c.loop-pending.invariant.kept c.in_ok-id.ensures.kept;
      spent = round_spends (contents c.args.nodes.now c.args.self.now) (contents c.loop-pending.nodes c.loop-pending.self) (contents c.compute.new.nodes c.compute.new.self) c.loop-pending.invariant.kept.kept c.requires.held.rules
          c.args.a c.args.b c.loop-pending.next (c.in_ok-left.left, c.in_ok-left.right) c.loop-pending.invariant.pair c.in_ok-left.ensures.pair c.loop-pending.invariant.spent c.in_ok-id.ensures.spends;
      pairs = (c.in_default-next_open.ensures.pairs c.args.nodes.now c.args.a c.args.b waiting).0;
      pair = pair_itself c.args.nodes.now c.args.a c.args.b c.requires.held.left c.requires.held.right;
      unsettled = c.in_default-look_up.ensures.unsettled;
    }

pub returns-then-eq-2-clause-and : goal.returns-then-eq-2-clause-and
returns-then-eq-2-clause-and c =
    let new = contents c.compute.new.nodes c.compute.new.self in
    subst (λ s. IsSettledAnd new s c.args.b c.in_ok-id.id) (same_id_is c.in_ok-left.left c.args.a (sym c.eq.ensures ∙ c.if-eq.true))
    (subst (λ s. IsSettledAnd new c.in_ok-left.left s c.in_ok-id.id) (same_id_is c.in_ok-left.right c.args.b (sym c.eq-then-eq.ensures ∙ c.if-eq-2.true)) (record { and = c.in_ok-id.ensures.and; settled = inr c.in_ok-id.ensures.known.known }))

pub returns-then-eq-2-clause-spends : goal.returns-then-eq-2-clause-spends
returns-then-eq-2-clause-spends c =
    round_spends (contents c.args.nodes.now c.args.self.now) (contents c.loop-pending.nodes c.loop-pending.self) (contents c.compute.new.nodes c.compute.new.self) c.loop-pending.invariant.kept.kept c.requires.held.rules
    c.args.a c.args.b c.loop-pending.next (c.in_ok-left.left, c.in_ok-left.right) c.loop-pending.invariant.pair c.in_ok-left.ensures.pair c.loop-pending.invariant.spent c.in_ok-id.ensures.spends
