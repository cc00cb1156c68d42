use Rattle.std.proofs.Common.{◌∙◌}
use Rattle.pep508_markers.proofs.SessionLaws.{adds, has_no_room}
use Rattle.pep508_markers.proofs.session.Session.add.Goals as goal

pub returns-in-Ok-clause-answers : goal.returns-in-Ok-clause-answers
returns-in-Ok-clause-answers c making m = adds c.args.self.now.interner c.args.self.now.cells.items c.push.new.self.items c.args.tree _ c.args.kinds.items making c.in-Ok.ensures.items (c.len-index.ensures ∙ c.args.self.now.cells.ok.0) m

pub returns-in-Err-clause-answers : goal.returns-in-Err-clause-answers
returns-in-Err-clause-answers c making m = has_no_room c.args.self.now.interner c.args.self.now.cells.items c.push.new.self.items c.args.tree c.args.kinds.items making c.in-Err.ensures.items m
