use Rattle.marker_lines.specs.LineStep.{Names, no_more}
use Rattle.std.proofs.Common.{subst, sym, [], List, ℕ}
use Rattle.marker_lines.proofs.SessionLaws.{names_more, names_refused}
use Rattle.marker_lines.proofs.line_session.read_names.Goals as goal

pub loop-word-init : goal.loop-word-init
loop-word-init c = subst (λ (x : List (List ℕ)). Names [] x) (sym c.new-names.ensures.items) no_more

pub loop-word-preserved : goal.loop-word-preserved
loop-word-preserved c =
    let same = rw c.in-Some.is at c.in_ok-name.ensures.read in
    names_more c.args.words.now c.loop-word.word-index _ c.loop-word-test.true c.loop-word.invariant (rw same at c.parse.ensures.read) c.in_ok-push.ensures.items

pub returns-in_default : goal.returns-in_default
returns-in_default c names =
    let fault = rw c.in_default.is at c.in_ok-name.ensures.fault in
    names_refused c.args.words.now c.loop-word.word-index _ c.loop-word-test.true (rw fault.1 at c.parse.ensures.refused).1
