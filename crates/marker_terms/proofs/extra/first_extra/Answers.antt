use Rattle.std.proofs.Common.{◌+◌, drop, ap, sym, ◌∙◌}
use Rattle.marker_terms.specs.Extra.{first_extra, or_else}
use Rattle.marker_terms.proofs.ExtraLaws.{first_here, first_none}
use Rattle.marker_terms.proofs.extra.first_extra.Goals as goal

pub loop-term-preserved : goal.loop-term-preserved
loop-term-preserved c =
    c.loop-term.invariant ∙ first_here c.args.clause.now c.loop-term.term-index c.term-item.result c.loop-term-test.true c.term-item.is
    ∙ ap (λ o. or_else o (first_extra (drop (c.loop-term.term-index + 1) c.args.clause.now))) (sym c.in_default.ensures)

pub returns-in-Some : goal.returns-in-Some
returns-in-Some c =
    sym (c.loop-term.invariant ∙ first_here c.args.clause.now c.loop-term.term-index c.term-item.result c.loop-term-test.true c.term-item.is
    ∙ ap (λ o. or_else o (first_extra (drop (c.loop-term.term-index + 1) c.args.clause.now))) (sym c.in-Some.ensures))

pub returns : goal.returns
returns c = sym (c.loop-term.invariant ∙ first_none c.args.clause.now c.loop-term.term-index c.loop-term-test.false)
