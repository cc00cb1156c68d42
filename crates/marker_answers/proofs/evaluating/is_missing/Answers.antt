use Rattle.std.proofs.Common.{refl}
use Rattle.marker_answers.proofs.SettleLaws.{missing}
use Rattle.marker_answers.proofs.evaluating.is_missing.Goals as goal

pub returns-then-depends_on : goal.returns-then-depends_on
returns-then-depends_on c =
    missing c.table-table.result.now c.args.interner.now.nodes c.id.result c.args.both.id c.id-then-depends_on.result c.args.given.id c.args.key c.depends_on-then-depends_on.result
    c.table-table.ensures.table c.id.ensures c.id-then-depends_on.ensures (c.if-depends_on.ensures.0 refl) c.depends_on-then-depends_on.ensures.1
