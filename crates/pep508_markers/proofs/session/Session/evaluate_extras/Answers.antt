use Rattle.std.proofs.Common.{refl}
use Rattle.pep508_markers.specs.Machine.{tells}
use Rattle.pep508_markers.proofs.SessionLaws.{tells_possible, refuses_one}
use Rattle.pep508_markers.proofs.session.Session.evaluate_extras.Goals as goal

pub returns-in-Some : goal.returns-in-Some
returns-in-Some c = tells (tells_possible c.args.self.now.interner c.args.self.now.cells.items c.args.a c.in-Some.tree c.in-Some.ensures.found c.args.extras.now c.evaluate_extras.result c.evaluate_extras.ensures.possible c.evaluate_extras.ensures.impossible) refl

pub returns-in-None : goal.returns-in-None
returns-in-None c = refuses_one c.args.self.now.interner c.args.self.now.cells.items c.args.a refl c.in-None.ensures.missing
