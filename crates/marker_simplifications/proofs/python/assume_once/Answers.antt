use Rattle.std.proofs.Common.{sym, subst}
use Rattle.version_ranges.specs.Clamp.{bound_of}
use Rattle.marker_simplifications.specs.Simplified.{AreFound}
use Rattle.marker_nodes.proofs.Descents.{held_kept}
use Rattle.marker_simplifications.proofs.Assumptions.{found_kept, found_more}
use Rattle.marker_simplifications.proofs.python.assume_once.Goals as goal

pub returns-in-Some-clause-assumed : goal.returns-in-Some-clause-assumed
returns-in-Some-clause-assumed c = (c.requires.known.found c.args.id _ (sym c.in-Some.ensures.value)).1

pub returns-in_err-made-clause-known : goal.returns-in_err-made-clause-known
returns-in_err-made-clause-known c = record {
  rules = c.assume_at_python.ensures.rules;
  found = found_kept (bound_of c.args.lower) (bound_of c.args.upper) c.args.nodes.now c.assume_at_python.new.nodes c.args.known.now.entries c.assume_at_python.ensures.kept c.requires.known.found;
}

pub returns-in_err-insert-clause-known : goal.returns-in_err-insert-clause-known
returns-in_err-insert-clause-known c = record {
  rules = c.assume_at_python.ensures.rules;
  found = subst (AreFound c.assume_at_python.new.nodes (bound_of c.args.lower) (bound_of c.args.upper)) (sym c.in_err-insert.ensures.err)
      (found_kept (bound_of c.args.lower) (bound_of c.args.upper) c.args.nodes.now c.assume_at_python.new.nodes c.args.known.now.entries c.assume_at_python.ensures.kept c.requires.known.found);
}

pub returns-clause-known : goal.returns-clause-known
returns-clause-known c =
    let kept = c.assume_at_python.ensures.kept in
    let nodes = c.assume_at_python.new.nodes in
    record {
      rules = c.assume_at_python.ensures.rules;
      found = found_more (bound_of c.args.lower) (bound_of c.args.upper) nodes c.args.known.now.entries _ c.args.id c.in_ok-made.made
          (found_kept (bound_of c.args.lower) (bound_of c.args.upper) c.args.nodes.now nodes c.args.known.now.entries kept c.requires.known.found) (held_kept c.args.nodes.now nodes c.args.id kept c.requires.after.0)
          c.in_ok-made.ensures.assumed (let u = c.in_ok-insert.ensures.updates in u.0);
    }
