use Rattle.std.proofs.Common.{refl}
use Rattle.pep508_markers.specs.Machine.{tells}
use Rattle.pep508_markers.proofs.SessionLaws.{tells_disjoint, refuses_two}
use Rattle.pep508_markers.proofs.session.Session.disjoint.Goals as goal

pub returns-in-Some : goal.returns-in-Some
returns-in-Some c = tells (tells_disjoint c.args.self.now.interner c.args.self.now.cells.items c.args.a c.args.b c.in-Some.left c.in-Some.right c.in-Some.ensures.found.0 c.in-Some.ensures.found.1 c.is_disjoint.result c.is_disjoint.ensures.disjoint c.is_disjoint.ensures.shared) refl

pub returns-in-None : goal.returns-in-None
returns-in-None c = refuses_two c.args.self.now.interner c.args.self.now.cells.items c.args.a c.args.b refl c.in-None.ensures.missing
