use Rattle.std.proofs.Common.{subst, refl}
use Rattle.pep508_markers.specs.Machine
use Rattle.pep508_markers.specs.Machine.{make, Cells, Step, refuses, starved}
use Rattle.pep508_markers.specs.Session.{cells_of, answer_of}
use Rattle.pep508_markers.proofs.SessionLaws.{makes_or, two_are_there, truths_kept, refuses_two}
use Rattle.pep508_markers.proofs.session.Session.disjunction.Goals as goal

pub returns-in-Ok-clause-answers : goal.returns-in-Ok-clause-answers
returns-in-Ok-clause-answers c =
    let trees = c.args.self.now.cells.items in
    let making = Machine.disjunction c.args.a c.args.b in
    let means = makes_or c.or.new.interner trees c.new.result.items c.new.ensures.items c.args.a c.in-Some.left c.in-Some.ensures.found.0 c.args.b c.in-Some.right c.in-Some.ensures.found.1 c.or.new.self c.in-Ok.ensures.means in
    subst (λ (x : Cells). Step x (make making) (answer_of c.add.result) (cells_of c.add.new.self)) (truths_kept c.args.self.now.interner c.or.new.interner trees c.or.ensures.kept c.args.self.now.held) (c.add.ensures.answers making means)

pub returns-in-Err-clause-answers : goal.returns-in-Err-clause-answers
returns-in-Err-clause-answers c =
    let trees = c.args.self.now.cells.items in
    refuses (starved (two_are_there c.args.self.now.interner trees c.args.a c.args.b c.in-Some.left c.in-Some.right c.in-Some.ensures.found.0 c.in-Some.ensures.found.1)) (truths_kept c.args.self.now.interner c.or.new.interner trees c.or.ensures.kept c.args.self.now.held)

pub returns-in_default-clause-answers : goal.returns-in_default-clause-answers
returns-in_default-clause-answers c = refuses_two c.args.self.now.interner c.args.self.now.cells.items c.args.a c.args.b refl c.in_default.ensures.missing
