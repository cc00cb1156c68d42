use Rattle.std.proofs.Common.{inr}
use Rattle.marker_view.proofs.branch.add_text_test.Goals as goal

pub returns : goal.returns
returns c = inr (c.in_ok-branch.branch, c.in_ok-term.term, c.in_ok-push.ensures.items, c.in_ok-term.ensures, c.in_ok-branch.ensures)
