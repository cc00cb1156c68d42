use Rattle.std.proofs.Common.{arith, sym, ◌∙◌}
use Rattle.version_ranges.proofs.SingleLaws.{not_two, read_only, read_none}
use Rattle.version_ranges.proofs.ranges.Ranges.as_singleton.Goals as goal

pub returns-then-steps-ne2-clause-other : goal.returns-then-steps-ne2-clause-other
returns-then-steps-ne2-clause-other g c =
    let s = c.args.self.now in
    not_two g.met.T.Ord.total g.T.PartialEq.eq g.met.T.Ord.matches_eq s.cuts.first s.cuts.rest.items s.cuts.ascending s.merged c.deref-steps.result.now c.deref-steps.ensures.value (λ e. c.if-steps-ne2.true e)

pub returns-then-is_around-clause-single : goal.returns-then-is_around-clause-single
returns-then-is_around-clause-single g c =
    let s = c.args.self.now in
    read_only g.met.T.Ord.total g.T.PartialEq.eq g.met.T.Ord.matches_eq s.cuts.first s.cuts.rest.items s.cuts.ascending s.merged c.deref-steps.result.now c.index-steps-0.result c.index-steps-1.result
    c.deref-steps.ensures.value (omega arith) (sym c.is_around.ensures ∙ c.if-is_around.true)

pub returns-else-is_around-clause-other : goal.returns-else-is_around-clause-other
returns-else-is_around-clause-other g c =
    let s = c.args.self.now in
    read_none g.met.T.Ord.total g.T.PartialEq.eq g.met.T.Ord.matches_eq s.cuts.first s.cuts.rest.items s.cuts.ascending s.merged c.deref-steps.result.now c.index-steps-0.result c.index-steps-1.result
    c.deref-steps.ensures.value (omega arith) (sym c.is_around.ensures ∙ c.if-is_around.false)
