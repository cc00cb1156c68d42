use Rattle.std.proofs.Common.{refl}
use Rattle.marker_graph.specs.Contents.{truth}
use Rattle.pep508_markers.specs.Machine.{tells}
use Rattle.pep508_markers.proofs.SessionLaws.{cell_holds, refuses_one}
use Rattle.pep508_markers.proofs.session.Session.evaluate.Goals as goal

pub returns-in-Some : goal.returns-in-Some
returns-in-Some c = tells ((truth c.args.self.now.interner c.in-Some.tree, cell_holds c.args.self.now.interner c.args.self.now.cells.items c.args.a c.in-Some.tree c.in-Some.ensures.found, c.evaluate.ensures)) refl

pub returns-in-None : goal.returns-in-None
returns-in-None c = refuses_one c.args.self.now.interner c.args.self.now.cells.items c.args.a refl c.in-None.ensures.missing
