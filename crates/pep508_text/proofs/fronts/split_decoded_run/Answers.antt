use Rattle.std.proofs.Common.{rules, ◌∙◌}
use Rattle.pep508_text.specs.Run.{run_of, after_run}
use Rattle.pep508_text.proofs.Splits.{Stopped, none_passed, passed_in_run, stopped_at_end, stopped_before}
use Rattle.pep508_text.proofs.fronts.split_decoded_run.Goals as goal
use Rattle.pep508_text.proofs.fronts.split_decoded_run.Goals.{Joined-first, in-Some+then-not-holds, in_default}

pub loop-c-init : goal.loop-c-init
loop-c-init c = none_passed _ _ _ c.utf8.text

pub loop-c-preserved : goal.loop-c-preserved
loop-c-preserved c = passed_in_run _ _ _ _ _ c.utf8.text c.loop-c.invariant c.in-Some.ensures.bytes c.in-Some.ensures.characters (search rules)

-- the loop ends before a character that is not of the class, or at the end of the text
ended : (c : Joined-first) → Stopped (run_of c.args.class) (after_run c.args.class) c.args.text.now c.loop-c.rest.now
ended c = elim c.match-first.branch [ in-Some+then-not-holds w ↦ stopped_before _ _ _ c.utf8.text c.loop-c.invariant _ _ w.in-Some.ensures.characters (search rules) | in_default w ↦ stopped_at_end _ _ _ c.utf8.text c.loop-c.invariant w.in_default.ensures.characters ]

pub split_at-requires : goal.split_at-requires
split_at-requires c = (ended c).boundary

pub returns-clause-bytes : goal.returns-clause-bytes
returns-clause-bytes c =
    let s = ended (goal.at.returns-clause-bytes c).Joined-first in
    c.split_at.ensures.front ∙ s.front_is ∙ s.bytes
