use Rattle.std.proofs.Common.{◌++◌, ap, ◌∙◌, length, subst}
use Rattle.std.specs.Fn.{FnReturnsAt}
use Rattle.marker_diagrams.proofs.NodeLaws.{keeps_both, keeps_itself}
use Rattle.marker_nodes.specs.Node.{markers}
use Rattle.marker_simplifications.specs.Granting.{IsNext}
use Rattle.marker_simplifications.proofs.Grants.{known_kept}
use Rattle.marker_simplifications.proofs.GrantSteps.{plain_longer, plain_below, plain_wait}
use Rattle.marker_simplifications.proofs.extras.descend.Goals as goal

pub loop-made-init : goal.loop-made-init
loop-made-init g c = record {
  kept = record { nodes = keeps_itself markers c.args.nodes.now; rules = λ h. h };
  plain = λ n h. h;
  unknown = c.requires.first.unknown;
  pending = λ n p h. h;
}

pub advance-requires-clause-plain : goal.advance-requires-clause-plain
advance-requires-clause-plain g c = plain_longer c.args.nodes.now c.loop-made.nodes c.loop-made.at c.loop-made.invariant.kept.nodes (c.loop-made.invariant.plain (length c.args.nodes.now) c.requires.first.plain)

pub advance-requires-clause-known : goal.advance-requires-clause-known
advance-requires-clause-known g c = record {
  rules = c.loop-made.invariant.kept.rules c.requires.known.rules;
  known = known_kept (FnReturnsAt g.F.Fn c.args.is_extra.now) c.args.nodes.now c.loop-made.nodes c.args.known.now.entries c.loop-made.invariant.kept.nodes c.requires.known.known;
}

pub loop-made-preserved-in_ok-extend_from_slice-in-Waits : goal.loop-made-preserved-in_ok-extend_from_slice-in-Waits
loop-made-preserved-in_ok-extend_from_slice-in-Waits g c =
    let next = subst (IsNext c.advance.new.nodes (FnReturnsAt g.F.Fn c.args.is_extra.now) c.args.known.now.entries c.loop-made.at) c.in-Waits.is c.in_ok-made.ensures.next in
    record {
      kept = record { nodes = keeps_both markers c.args.nodes.now c.loop-made.nodes c.advance.new.nodes c.loop-made.invariant.kept.nodes c.advance.ensures.kept.nodes; rules = λ h. c.advance.ensures.kept.rules (c.loop-made.invariant.kept.rules h) };
      plain = λ n h. plain_below c.args.known.now.entries n c.loop-made.at c.in-Waits.last (c.loop-made.invariant.plain n h) next.0;
      unknown = next.0.unknown;
      pending = λ n p h. plain_wait c.args.known.now.entries n c.loop-made.at c.in-Waits.others.items c.loop-made.pending.items c.push.new.self.items c.extend_from_slice.new.self.items (c.loop-made.invariant.plain n p) next.1 (c.loop-made.invariant.pending n p h)
          c.in_ok-push-in-Waits.ensures.items (c.in_ok-extend_from_slice-in-Waits.ensures.items ∙ ap (λ xs. c.push.new.self.items ++ xs) c.deref.ensures);
    }

pub loop-made-preserved : goal.loop-made-preserved
loop-made-preserved g c =
    let next = subst (IsNext c.advance.new.nodes (FnReturnsAt g.F.Fn c.args.is_extra.now) c.args.known.now.entries c.loop-made.at) c.in-Waits.is c.in_ok-made.ensures.next in
    record {
      kept = record { nodes = keeps_both markers c.args.nodes.now c.loop-made.nodes c.advance.new.nodes c.loop-made.invariant.kept.nodes c.advance.ensures.kept.nodes; rules = λ h. c.advance.ensures.kept.rules (c.loop-made.invariant.kept.rules h) };
      plain = λ n h. plain_below c.args.known.now.entries n c.loop-made.at c.in-Waits.last (c.loop-made.invariant.plain n h) next.0;
      unknown = next.0.unknown;
      pending = λ n p h. plain_wait c.args.known.now.entries n c.loop-made.at c.in-Waits.others.items c.loop-made.pending.items c.push.new.self.items c.extend_from_slice.new.self.items (c.loop-made.invariant.plain n p) next.1 (c.loop-made.invariant.pending n p h)
          c.in_ok-push-in-Waits.ensures.items (c.in_ok-extend_from_slice-in-Waits.ensures.items ∙ ap (λ xs. c.push.new.self.items ++ xs) c.deref.ensures);
    }
