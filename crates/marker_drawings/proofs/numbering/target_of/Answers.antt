use Rattle.std.proofs.lemmas.Bool.{both_ways}
use Rattle.marker_drawings.specs.declared.drawing.Target.TheVariants.{True, False}
use Rattle.marker_drawings.proofs.NumberLaws.{numbers_constant, numbers_inserted}
use Rattle.marker_drawings.proofs.numbering.target_of.Goals as goal

pub returns-then-is_true : goal.returns-then-is_true
returns-then-is_true c = numbers_constant _ c.args.tree True (c.is_true.ensures.0 c.if-is_true.true)

pub returns-then-is_false : goal.returns-then-is_false
returns-then-is_false c = numbers_constant _ c.args.tree False (c.is_false.ensures.0 c.if-is_false.true)

pub returns : goal.returns
returns c =
    numbers_inserted _ _ c.args.tree c.in_ok-index.ensures.stored.0 c.in_ok-index.index c.in_ok-index.ensures.keys c.in_ok-index.ensures.stored.1 c.in_ok-index.ensures.stored.2
    (λ e. both_ways _ c.if-is_true.false (c.is_true.ensures.1 e), λ e. both_ways _ c.if-is_false.false (c.is_false.ensures.1 e))
