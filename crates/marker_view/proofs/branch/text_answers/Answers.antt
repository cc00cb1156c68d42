use Rattle.std.proofs.Common.{subst}
use Rattle.marker_parts.specs.Expression as asked
use Rattle.marker_view.specs.Branch.{IsAnswered}
use Rattle.marker_view.proofs.branch.text_answers.Goals as goal

pub returns : goal.returns
returns c = (
  c.add_text_test.new.branches.items,
  subst (λ xs. IsAnswered (asked.text c.args.key c.args.positive.0 c.args.text.now) c.args.positive.1 xs c.add_text_test.new.branches.items) c.in_ok-branches.ensures.items c.in_ok-add_text_test.ensures,
  c.in_ok-add_text_test-2.ensures,
)
