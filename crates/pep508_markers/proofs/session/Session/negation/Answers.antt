use Rattle.std.proofs.Common.{refl}
use Rattle.pep508_markers.specs.Machine
use Rattle.pep508_markers.proofs.SessionLaws.{makes_negation, refuses_one}
use Rattle.pep508_markers.proofs.session.Session.negation.Goals as goal

pub returns-clause-answers : goal.returns-clause-answers
returns-clause-answers c =
    c.add.ensures.answers (Machine.negation c.args.a)
    (makes_negation c.args.self.now.interner c.args.self.now.cells.items c.new.result.items c.new.ensures.items c.args.a c.in-Some.tree c.in-Some.ensures.found c.negate.result (c.negate.ensures.means c.args.self.now.interner))

pub returns-in_default-clause-answers : goal.returns-in_default-clause-answers
returns-in_default-clause-answers c = refuses_one c.args.self.now.interner c.args.self.now.cells.items c.args.a refl c.in_default.ensures.missing
