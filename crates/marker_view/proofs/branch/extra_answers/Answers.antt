use Rattle.std.proofs.Common.{subst}
use Rattle.marker_words.specs.declared.operator.ExtraOperator.TheVariants.{Equal}
use Rattle.marker_parts.specs.Expression as asked
use Rattle.marker_view.specs.Branch.{extra_of_ref, IsAnswered}
use Rattle.marker_view.proofs.branch.extra_answers.Goals as goal

pub returns : goal.returns
returns c = (
  c.add_extra_test.new.branches.items,
  subst (λ xs. IsAnswered (asked.extra Equal (extra_of_ref c.args.extra)) c.args.high xs c.add_extra_test.new.branches.items) c.in_ok-branches.ensures.items c.in_ok-add_extra_test.ensures,
  c.in_ok-add_extra_test-2.ensures,
)
