use Rattle.std.proofs.Common.{sym, subst}
use Rattle.std.specs.declared.ops.Bound.TheVariants.{Included, Excluded, Unbounded}
use Rattle.marker_lines.specs.LineStep.{SaysBound, included, excluded, unbounded}
use Rattle.marker_lines.specs.LineView.{bound_text_of}
use Rattle.marker_lines.proofs.line_session.read_bound.Goals as goal

pub returns-in-Some : goal.returns-in-Some
returns-in-Some c =
    let same = rw c.in-Some.is at c.in_ok-version-in-Included.ensures.read in
    subst (λ b. SaysBound (bound_text_of b) (Included c.in-Some.version)) (sym c.in-Included.is) (included (rw same at c.parse.ensures.found))

pub returns-in-Some-2 : goal.returns-in-Some-2
returns-in-Some-2 c =
    let same = rw c.in-Some-2.is at c.in_ok-version-in-Excluded.ensures.read in
    subst (λ b. SaysBound (bound_text_of b) (Excluded c.in-Some-2.version)) (sym c.in-Excluded.is) (excluded (rw same at c.parse-in-Excluded.ensures.found))

pub returns-in-Unbounded : goal.returns-in-Unbounded
returns-in-Unbounded c = subst (λ b. SaysBound (bound_text_of b) Unbounded) (sym c.in-Unbounded.is) unbounded
