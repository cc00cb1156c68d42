use Rattle.std.proofs.Common.{subst, refl}
use Rattle.marker_grammar.specs.Flat.{formula_of}
use Rattle.pep508_markers.specs.Machine
use Rattle.pep508_markers.specs.Machine.{make, Cells, Step, refuses, starved, text_overflows}
use Rattle.pep508_markers.specs.Cells.{truths_of}
use Rattle.pep508_markers.specs.Session.{cells_of, answer_of}
use Rattle.pep508_markers.proofs.SessionLaws.{makes_text, formula_overflows, truths_kept}
use Rattle.pep508_markers.proofs.TextLaws.{known_tree}
use Rattle.pep508_markers.proofs.session.Session.parse.Goals as goal

pub returns-in-Some-clause-answers : goal.returns-in-Some-clause-answers
returns-in-Some-clause-answers c =
    let interner = c.args.self.now.interner in
    let tree = known_tree interner c.args.text.now c.in-Some.tree c.new.result.items c.new.ensures.items c.in-Some.ensures in
    c.add.ensures.answers (Machine.parse c.args.text.now) (makes_text interner (cells_of c.args.self.now) c.args.text.now c.in-Some.tree c.new.result.items tree)

pub returns-in-Err-clause-answers : goal.returns-in-Err-clause-answers
returns-in-Err-clause-answers c = refuses (c.refusal.ensures (cells_of c.args.self.now)) refl

pub returns-in-Ok-tree_of_reading-clause-answers : goal.returns-in-Ok-tree_of_reading-clause-answers
returns-in-Ok-tree_of_reading-clause-answers c =
    let trees = c.args.self.now.cells.items in
    let making = Machine.parse c.args.text.now in
    let now = c.tree_of_reading.new.interner in
    let means = makes_text now (truths_of now trees) c.args.text.now c.in-Ok-tree_of_reading.tree c.in-Ok-tree_of_reading.kinds.items c.in-Ok-tree_of_reading.ensures.means.means in
    subst (λ (x : Cells). Step x (make making) (answer_of c.add-in-Ok-tree_of_reading.result) (cells_of c.add-in-Ok-tree_of_reading.new.self)) (truths_kept c.args.self.now.interner now trees c.tree_of_reading.ensures.kept.kept c.args.self.now.held) (c.add-in-Ok-tree_of_reading.ensures.answers making means)

pub returns-in-Err-OutOfMemory-clause-answers : goal.returns-in-Err-OutOfMemory-clause-answers
returns-in-Err-OutOfMemory-clause-answers c = refuses (starved (λ h. h)) (truths_kept c.args.self.now.interner c.tree_of_reading.new.interner c.args.self.now.cells.items c.tree_of_reading.ensures.kept.kept c.args.self.now.held)

pub returns-in-Err-SegmentAtEnd-clause-answers : goal.returns-in-Err-SegmentAtEnd-clause-answers
returns-in-Err-SegmentAtEnd-clause-answers c =
    let overflows = formula_overflows c.in-Err-SegmentAtEnd.field-0 (formula_of c.in-Ok.reading.formula) c.in-Err-SegmentAtEnd.field-0-is c.in-Err-SegmentAtEnd.ensures.err in
    refuses (text_overflows (formula_of c.in-Ok.reading.formula, (c.in-Ok.reading.kinds.items, c.in-Ok.ensures.found), overflows)) (truths_kept c.args.self.now.interner c.tree_of_reading.new.interner c.args.self.now.cells.items c.tree_of_reading.ensures.kept.kept c.args.self.now.held)
