-- The machine's view of a session, its commands and its replies.
use Rattle.std.specs.Prelude.{⊤, ℕ, List, map, option_map, string_bytes}
use Rattle.std.specs.Borrow.{Bor}
use Rattle.std.specs.declared.ops.Bound.{Bound}
use Rattle.version_ranges.specs.Clamp.{bound_of}
use Rattle.pep440_version.specs.Parts.{Parts}
use Rattle.pep508_errors.specs.declared.warning.MarkerWarningKind.{MarkerWarningKind}
use Rattle.marker_environment.specs.declared.environment.MarkerEnvironment.{MarkerEnvironment}
use Rattle.marker_environment.specs.Environment.{values_of}
use Rattle.marker_parts.specs.Expression.{test_of}
use Rattle.marker_parts.specs.declared.expression.MarkerExpression.{MarkerExpression}
use Rattle.marker_graph.specs.declared.tree.MarkerTree.{MarkerTree}
use Rattle.marker_graph.specs.Contents.{truth}
use Rattle.pep508_markers.specs.declared.session.Session.{Session}
use Rattle.pep508_markers.specs.declared.session.Command.{Command}
use Rattle.pep508_markers.specs.declared.session.Command.TheVariants.{Parse, Expression, Not, And, Or, SimplifyPython, ComplexifyPython, SimplifyExtras, Equal, Disjoint, Evaluate, EvaluateExtras, Text}
use Rattle.pep508_markers.specs.declared.session.Reply.{Reply}
use Rattle.pep508_markers.specs.declared.session.Reply.TheVariants.{Cell, Truth as TruthIs, Text as TextIs, Refused}
use Rattle.pep508_markers.specs.declared.session.Reason as reasons
use Rattle.pep508_markers.specs.declared.session.Reason.TheVariants.{NoSuchCell, OutOfMemory, SegmentAtEnd, InvalidExpression, Marker}
use Rattle.pep508_markers.specs.Cells.{truths_of}
use Rattle.pep508_markers.specs.Machine.{Cells, IsRefusal, Makes, Making, Request, make, ask, print, parse, expression, negation, conjunction, disjunction, simplify_python, complexify_python, simplify_extras, equal, disjoint, evaluate, evaluate_extras, Reason, no_such_cell, out_of_memory, segment_at_end, invalid_expression, marker, Answer, cell, truth_is, text_is, refused, Step, Run}

abbrev pub cells_of : Session → Cells
cells_of s = truths_of s.interner s.cells.items

abbrev pub request_of : Command → Request
request_of (Parse text) = make (parse text.now)
request_of (Expression e) = make (expression (test_of e.now))
request_of (Not a) = make (negation a)
request_of (And a b) = make (conjunction a b)
request_of (Or a b) = make (disjunction a b)
request_of (SimplifyPython a lower upper) =
    make (simplify_python a (bound_of lower) (bound_of upper))
request_of (ComplexifyPython a lower upper) =
    make (complexify_python a (bound_of lower) (bound_of upper))
request_of (SimplifyExtras a extras) = make (simplify_extras a extras.now)
request_of (Equal a b) = ask (equal a b)
request_of (Disjoint a b) = ask (disjoint a b)
request_of (Evaluate a environment extras) = ask (evaluate a (values_of environment.now) extras.now)
request_of (EvaluateExtras a extras) = ask (evaluate_extras a extras.now)
request_of (Text a) = print a

abbrev pub reason_of : reasons.Reason → Reason
reason_of NoSuchCell = no_such_cell
reason_of OutOfMemory = out_of_memory
reason_of SegmentAtEnd = segment_at_end
reason_of InvalidExpression = invalid_expression
reason_of (Marker start len message) = marker start len (string_bytes message)

abbrev pub answer_of : Reply → Answer
answer_of (Cell a kinds) = cell a kinds.items
answer_of (TruthIs b) = truth_is b
answer_of (TextIs text) = text_is (option_map string_bytes text)
answer_of (Refused reason) = refused (reason_of reason)

-- the session may give this reply to the request, and is the new one then
abbrev pub Answers : Session → Request → Reply → Session → Type 0
Answers old request reply new = Step (cells_of old) request (answer_of reply) (cells_of new)

-- a fact of a command that is refused
abbrev pub OnRefused : Reply → Type 0 → Type 0
OnRefused (Cell a kinds) P = ⊤
OnRefused (TruthIs b) P = ⊤
OnRefused (TextIs text) P = ⊤
OnRefused (Refused reason) P = P

-- the session may give these replies to the commands, one after another, and is the new one then
abbrev pub Runs : Session → List Command → List Reply → Session → Type 0
Runs old commands replies new =
    Run (cells_of old) (map request_of commands) (map answer_of replies) (cells_of new)

-- ---- single commands

-- this reply to a comparison that is to be stored
abbrev pub AnswersExpression : Session → MarkerExpression → Reply → Session → Type 0
AnswersExpression old e reply new = Answers old (make (expression (test_of e))) reply new

-- this reply to a cell that is to be simplified for a range of Python versions
abbrev pub AnswersSimplifyPython : Session → ℕ → Bound (Bor Parts) → Bound (Bor Parts)
    → Reply → Session → Type 0
AnswersSimplifyPython old a lower upper reply new =
    Answers old (make (simplify_python a (bound_of lower) (bound_of upper))) reply new

-- this reply to a cell of which a range of Python versions is to be required
abbrev pub AnswersRequirePython : Session → ℕ → Bound (Bor Parts) → Bound (Bor Parts)
    → Reply → Session → Type 0
AnswersRequirePython old a lower upper reply new =
    Answers old (make (complexify_python a (bound_of lower) (bound_of upper))) reply new

-- this reply to a cell that is to be simplified for active extras
abbrev pub AnswersSimplifyExtras : Session → ℕ → List (List ℕ) → Reply → Session → Type 0
AnswersSimplifyExtras old a extras reply new =
    Answers old (make (simplify_extras a extras)) reply new

-- this reply to whether a cell is true in an environment with these extras
abbrev pub AnswersEvaluate : Session → ℕ → MarkerEnvironment → List (List ℕ) → Reply → Session
    → Type 0
AnswersEvaluate old a e extras reply new =
    Answers old (ask (evaluate a (values_of e) extras)) reply new

-- this reply to each request that makes a cell of the tree's truth with these kinds of warnings
abbrev pub AnswersMaking : Session → MarkerTree → List MarkerWarningKind → Reply → Session → Type 0
AnswersMaking old t kinds reply new = (making : Making)
    → Makes (cells_of old) making (truth old.interner t) kinds → Answers old (make making) reply new

-- the reason why the text is not parsed, whatever the cells
abbrev pub IsReasonOfText : List ℕ → reasons.Reason → Type 0
IsReasonOfText text reason =
    (cells : Cells) → IsRefusal cells (make (parse text)) (reason_of reason)
