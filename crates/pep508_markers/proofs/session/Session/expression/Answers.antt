use Rattle.std.proofs.Common.{subst, refl}
use Rattle.marker_parts.specs.Expression.{test_of}
use Rattle.pep508_markers.specs.Machine
use Rattle.pep508_markers.specs.Machine.{make, Cells, Step, refuses, starved, overflows, invalid}
use Rattle.pep508_markers.specs.Cells.{truths_of}
use Rattle.pep508_markers.specs.Session.{cells_of, answer_of}
use Rattle.pep508_markers.proofs.SessionLaws.{makes_test, test_overflows, test_invalid, truths_kept}
use Rattle.pep508_markers.proofs.session.Session.expression.Goals as goal

pub returns-in_default-clause-answers : goal.returns-in_default-clause-answers
returns-in_default-clause-answers c = refuses (starved (λ h. h)) refl

pub returns-in-Ok-expression-clause-answers : goal.returns-in-Ok-expression-clause-answers
returns-in-Ok-expression-clause-answers c =
    let trees = c.args.self.now.cells.items in
    let making = Machine.expression (test_of c.args.expression.now) in
    let means = makes_test c.expression.new.interner (truths_of c.expression.new.interner trees) (test_of c.in-Ok.expression) (test_of c.args.expression.now) c.in-Ok-expression.tree c.new.result.items c.in-Ok.ensures.cases
    c.in-Ok-expression.ensures.made.no_overflow c.in-Ok-expression.ensures.made.not_invalid c.in-Ok-expression.ensures.means c.new.ensures.items in
    subst (λ (x : Cells). Step x (make making) (answer_of c.add.result) (cells_of c.add.new.self)) (truths_kept c.args.self.now.interner c.expression.new.interner trees c.expression.ensures.kept c.args.self.now.held) (c.add.ensures.answers making means)

pub returns-in-Err-OutOfMemory-clause-answers : goal.returns-in-Err-OutOfMemory-clause-answers
returns-in-Err-OutOfMemory-clause-answers c = refuses (starved (λ h. h)) (truths_kept c.args.self.now.interner c.expression.new.interner c.args.self.now.cells.items c.expression.ensures.kept c.args.self.now.held)

pub returns-in-Err-SegmentAtEnd-clause-answers : goal.returns-in-Err-SegmentAtEnd-clause-answers
returns-in-Err-SegmentAtEnd-clause-answers c =
    refuses (overflows (test_overflows c.in-Err-SegmentAtEnd.field-0 _ _ c.in-Ok.ensures.cases c.in-Err-SegmentAtEnd.field-0-is c.in-Err-SegmentAtEnd.ensures.err))
    (truths_kept c.args.self.now.interner c.expression.new.interner c.args.self.now.cells.items c.expression.ensures.kept c.args.self.now.held)

pub returns-in-Err-Fault-clause-answers : goal.returns-in-Err-Fault-clause-answers
returns-in-Err-Fault-clause-answers c =
    refuses (invalid (test_invalid c.in-Err-Fault.field-0 _ _ c.in-Err-Fault.field-0-0 c.in-Ok.ensures.cases c.in-Err-Fault.field-0-is c.in-Err-Fault.ensures.err))
    (truths_kept c.args.self.now.interner c.expression.new.interner c.args.self.now.cells.items c.expression.ensures.kept c.args.self.now.held)
