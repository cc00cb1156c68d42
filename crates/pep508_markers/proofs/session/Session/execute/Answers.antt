use Rattle.pep508_markers.proofs.SessionLaws.{not_refused, refused_again, released_held, released_truths}
use Rattle.pep508_markers.proofs.session.Session.execute.Goals as goal

pub invariant_of-self : goal.invariant_of-self
invariant_of-self c =
    let old = c.args.self.now in
    let same = c.release.ensures.undone old.interner c.mark-mark.ensures c.answer.ensures.kept in
    record { held = released_held old.interner c.release.new.self old.cells.items c.answer.new.self.cells.items same c.in-Refused.ensures.cells old.held }

pub returns-in-Refused-clause-answers : goal.returns-in-Refused-clause-answers
returns-in-Refused-clause-answers c =
    let old = c.args.self.now in
    let same = c.release.ensures.undone old.interner c.mark-mark.ensures c.answer.ensures.kept in
    refused_again c.in-Refused.ensures.answers (released_truths old.interner c.release.new.self old.cells.items c.answer.new.self.cells.items same c.in-Refused.ensures.cells old.held)

pub returns-in-Refused-clause-released : goal.returns-in-Refused-clause-released
returns-in-Refused-clause-released c = c.release.ensures.undone c.args.self.now.interner c.mark-mark.ensures c.answer.ensures.kept

pub returns-in_default-clause-released : goal.returns-in_default-clause-released
returns-in_default-clause-released c = not_refused c.answer.result _ c.in_default.not-Refused
