use Rattle.std.proofs.Common.{length, sym, subst}
use Rattle.std.specs.Fn.{FnReturnsAt}
use Rattle.std.specs.Prelude.{All}
use Rattle.std.proofs.lemmas.List.Elements.{All-nil}
use Rattle.marker_diagrams.proofs.NodeLaws.{keeps_both, keeps_itself}
use Rattle.marker_nodes.specs.Node.{markers}
use Rattle.marker_nodes.proofs.Descents.{held_kept}
use Rattle.marker_simplifications.specs.Granting.{IsPlain}
use Rattle.marker_simplifications.specs.Simplified.{AreKnown}
use Rattle.marker_simplifications.proofs.Grants.{nothing_known, known_kept, known_more}
use Rattle.marker_simplifications.proofs.GrantSteps.{found_granted, first_plain, fewer_unknown}
use Rattle.marker_simplifications.proofs.extras.grant_extras.Goals.{in-Some-next_unknown, in-None}
use Rattle.marker_simplifications.proofs.extras.grant_extras.Goals as goal

pub loop-found-init : goal.loop-found-init
loop-found-init g c = record {
  kept = keeps_itself markers c.args.nodes.now;
  known = record { rules = c.requires.rules; known = subst (AreKnown c.args.nodes.now (FnReturnsAt g.F.Fn c.args.is_extra.now)) (sym c.new-known.ensures.empty) (nothing_known (FnReturnsAt g.F.Fn c.args.is_extra.now) c.args.nodes.now) };
  pending = subst (All (IsPlain (length c.args.nodes.now))) (sym c.new-pending.ensures.items) (All-nil (IsPlain (length c.args.nodes.now)));
}

pub returns-in-Some-clause-granted : goal.returns-in-Some-clause-granted
returns-in-Some-clause-granted g c =
    found_granted (FnReturnsAt g.F.Fn c.args.is_extra.now) c.loop-found.nodes c.loop-found.known.entries c.args.id c.in-Some.found c.loop-found.invariant.known.known (held_kept c.args.nodes.now c.loop-found.nodes c.args.id c.loop-found.invariant.kept c.requires.held) c.in-Some.ensures.granted

pub loop-found-smaller : goal.loop-found-smaller
loop-found-smaller g c =
    let first : IsPlain (length c.args.nodes.now) c.match-next_unknown.first = (elim c.match-next_unknown.branch [
      | in-Some-next_unknown w ↦ subst (IsPlain (length c.args.nodes.now)) (sym w.first-is) (w.in-Some-next_unknown.ensures.plain (length c.args.nodes.now) c.loop-found.invariant.pending).1
      | in-None w ↦ subst (IsPlain (length c.args.nodes.now)) (sym w.first-is) (first_plain (length c.args.nodes.now) c.args.id w.negate-first.result c.requires.held w.negate-first.ensures)
    ]) in
    fewer_unknown c.loop-found.known.entries c.insert.new.self.entries c.in_ok-lowest.lowest c.in_ok-lowest.made (let u = c.in_ok-insert.ensures.updates in u.0) (length c.args.nodes.now) (c.in_ok-lowest.ensures.solved.plain (length c.args.nodes.now) first) c.in_ok-lowest.ensures.solved.unknown

pub loop-found-preserved : goal.loop-found-preserved
loop-found-preserved g c =
    let first : IsPlain (length c.args.nodes.now) c.match-next_unknown.first = (elim c.match-next_unknown.branch [
      | in-Some-next_unknown w ↦ subst (IsPlain (length c.args.nodes.now)) (sym w.first-is) (w.in-Some-next_unknown.ensures.plain (length c.args.nodes.now) c.loop-found.invariant.pending).1
      | in-None w ↦ subst (IsPlain (length c.args.nodes.now)) (sym w.first-is) (first_plain (length c.args.nodes.now) c.args.id w.negate-first.result c.requires.held w.negate-first.ensures)
    ]) in
    let lowest = c.in_ok-lowest.ensures.solved.plain (length c.args.nodes.now) first in
    let kept = keeps_both markers c.args.nodes.now c.loop-found.nodes c.descend.new.nodes c.loop-found.invariant.kept c.descend.ensures.kept.nodes in
    record {
      kept = kept;
      known = record {
        rules = c.descend.ensures.kept.rules c.loop-found.invariant.known.rules;
        known = known_more (FnReturnsAt g.F.Fn c.args.is_extra.now) c.descend.new.nodes c.loop-found.known.entries c.insert.new.self.entries c.in_ok-lowest.lowest c.in_ok-lowest.made
            (known_kept (FnReturnsAt g.F.Fn c.args.is_extra.now) c.loop-found.nodes c.descend.new.nodes c.loop-found.known.entries c.descend.ensures.kept.nodes c.loop-found.invariant.known.known)
            (held_kept c.args.nodes.now c.descend.new.nodes c.in_ok-lowest.lowest kept lowest.within) c.in_ok-lowest.ensures.solved.granted (let u = c.in_ok-insert.ensures.updates in u.0);
      };
      pending = c.in_ok-lowest.ensures.pending (length c.args.nodes.now) first (c.next_unknown.ensures.plain (length c.args.nodes.now) c.loop-found.invariant.pending).0;
    }
