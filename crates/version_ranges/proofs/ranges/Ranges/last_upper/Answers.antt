use Rattle.std.proofs.Common.{cond, ap, sym, ◌∙◌}
use Rattle.std.specs.declared.ops.Bound.TheVariants.{Unbounded}
use Rattle.version_ranges.specs.Cut.{upper_of}
use Rattle.version_ranges.proofs.SpanLaws.{upper_last}
use Rattle.version_ranges.proofs.ranges.Ranges.last_upper.Goals as goal

pub returns-then-step : goal.returns-then-step
returns-then-step g c =
    let x = c.in-Some.step.now in
    sym (upper_last c.args.self.now.cuts.rest.items _ x (sym c.deref.ensures.value ∙ c.in-Some.ensures.cases.0) ∙ ap (λ b. cond b Unbounded (upper_of x.0)) c.if-step.true)

pub returns-else-step : goal.returns-else-step
returns-else-step g c =
    let x = c.in-Some.step.now in
    c.upper.ensures
    ∙ sym (upper_last c.args.self.now.cuts.rest.items _ x (sym c.deref.ensures.value ∙ c.in-Some.ensures.cases.0) ∙ ap (λ b. cond b Unbounded (upper_of x.0)) c.if-step.false)
