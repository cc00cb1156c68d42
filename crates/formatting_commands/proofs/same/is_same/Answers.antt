use Rattle.formatting_commands.proofs.SameLaws.{alike, all_alike, same_marker, same_parts}
use Rattle.formatting_commands.proofs.same.is_same.Goals as goal

pub returns : goal.returns
returns c =
    same_parts c.args.one.now c.args.other.now c.is_same_wish.result
    (alike c.args.one.now.name c.args.other.now.name c.ne.result c.ne.ensures c.if-ne.false)
    (all_alike c.args.one.now.extras.items c.args.other.now.extras.items c.ne-else-ne.result c.ne-else-ne.ensures c.if-ne-2.false)
    (same_marker c.args.one.now.marker c.args.other.now.marker c.ne-else-ne-2.result c.ne-else-ne-2.ensures c.if-ne-3.false)
    c.is_same_wish.ensures
