use Rattle.std.proofs.Common.{subst, refl}
use Rattle.pep508_markers.specs.Machine
use Rattle.pep508_markers.specs.Machine.{make, Cells, Step, refuses, starved}
use Rattle.pep508_markers.specs.Session.{cells_of, answer_of}
use Rattle.pep508_markers.proofs.SessionLaws.{makes_granted, one_is_there, truths_kept, refuses_one}
use Rattle.pep508_markers.proofs.session.Session.simplify_extras.Goals as goal

pub returns-in-Ok-clause-answers : goal.returns-in-Ok-clause-answers
returns-in-Ok-clause-answers c =
    let trees = c.args.self.now.cells.items in
    let making = Machine.simplify_extras c.args.a c.args.extras.now in
    let means = makes_granted c.simplify_extras.new.interner trees c.new.result.items c.new.ensures.items c.args.a c.in-Some.tree c.in-Some.ensures.found c.args.extras.now c.in-Ok.tree c.in-Ok.ensures.means in
    subst (λ (x : Cells). Step x (make making) (answer_of c.add.result) (cells_of c.add.new.self)) (truths_kept c.args.self.now.interner c.simplify_extras.new.interner trees c.simplify_extras.ensures.kept c.args.self.now.held) (c.add.ensures.answers making means)

pub returns-in-Err-clause-answers : goal.returns-in-Err-clause-answers
returns-in-Err-clause-answers c =
    let trees = c.args.self.now.cells.items in
    refuses (starved (one_is_there c.args.self.now.interner trees c.args.a c.in-Some.tree c.in-Some.ensures.found)) (truths_kept c.args.self.now.interner c.simplify_extras.new.interner trees c.simplify_extras.ensures.kept c.args.self.now.held)

pub returns-in_default-clause-answers : goal.returns-in_default-clause-answers
returns-in_default-clause-answers c = refuses_one c.args.self.now.interner c.args.self.now.cells.items c.args.a refl c.in_default.ensures.missing
