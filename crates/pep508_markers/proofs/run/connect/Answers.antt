use Rattle.std.proofs.Common.{sym, ◌∙◌}
use Rattle.pep508_markers.specs.Trees.{trees_of}
use Rattle.pep508_markers.proofs.TreeLaws.{all_kept, left_held, right_held, runs_joined}
use Rattle.pep508_markers.proofs.run.connect.Goals as goal

pub run_under-requires : goal.run_under-requires
run_under-requires c = left_held c.args.interner.now c.in-Some.left c.in-Some.right c.args.runs.now.items c.pop_two.new.runs.items c.in-Some.ensures.two c.requires.0 c.requires.1

pub run_under-requires-2 : goal.run_under-requires-2
run_under-requires-2 c = all_kept c.args.interner.now c.run_under.new.interner (trees_of c.in-Some.right) c.run_under.ensures.kept.kept
    (right_held c.args.interner.now c.in-Some.left c.in-Some.right c.args.runs.now.items c.pop_two.new.runs.items c.in-Some.ensures.two c.requires.0 c.requires.1)

pub join_runs-requires : goal.join_runs-requires
join_runs-requires c = c.in_ok-second.ensures.connective ∙ sym c.in_ok-first.ensures.connective

pub returns-clause-runs : goal.returns-clause-runs
returns-clause-runs c = λ stack m.
    runs_joined c.args.interner.now c.in-Some.left c.in-Some.right c.args.runs.now.items c.pop_two.new.runs.items c.in-Some.ensures.two
    c.args.connective c.run_under.new.interner c.run_under-2.new.interner (trees_of c.in_ok-first.first) (trees_of c.in_ok-second.second)
    c.in_ok-both.both c.push.new.self.items c.run_under.ensures.kept.kept c.run_under-2.ensures.kept.kept
    c.in_ok-first.ensures.held c.in_ok-second.ensures.held c.in_ok-first.ensures.means c.in_ok-second.ensures.means c.in_ok-both.ensures.trees
    (c.in_ok-both.ensures.connective ∙ c.in_ok-first.ensures.connective) c.in_ok-push.ensures.items stack m
