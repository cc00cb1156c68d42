use Rattle.std.proofs.Common.{refl}
use Rattle.marker_graph.specs.Contents.{truth}
use Rattle.pep508_markers.specs.Machine.{refuses, no_text, prints}
use Rattle.pep508_markers.proofs.SessionLaws.{cell_holds, one_is_there, refuses_one}
use Rattle.pep508_markers.proofs.session.Session.text.Goals as goal

pub returns-in-Ok : goal.returns-in-Ok
returns-in-Ok c = prints (truth c.args.self.now.interner c.in-Some.tree) (cell_holds c.args.self.now.interner c.args.self.now.cells.items c.args.a c.in-Some.tree c.in-Some.ensures.found) c.in-Ok.ensures refl

pub returns-in-Err : goal.returns-in-Err
returns-in-Err c = refuses (no_text (one_is_there c.args.self.now.interner c.args.self.now.cells.items c.args.a c.in-Some.tree c.in-Some.ensures.found)) refl

pub returns-in_default : goal.returns-in_default
returns-in_default c = refuses_one c.args.self.now.interner c.args.self.now.cells.items c.args.a refl c.in_default.ensures.missing
