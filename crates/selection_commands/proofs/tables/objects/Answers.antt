use Rattle.std.proofs.Common.{◌≡◌, ◌++◌, ◌∙◌, codes, rules, string_bytes}
use Rattle.selection_commands.proofs.JsonLaws.{lines_more}
use Rattle.selection_commands.proofs.tables.objects.Goals as goal

pub loop-row-preserved : goal.loop-row-preserved
loop-row-preserved c =
    let ends : string_bytes c.push.new.self ≡ string_bytes c.push_str.new.self ++ codes "\n" = search rules in
    lines_more c.args.columns.now c.args.rows.now c.loop-row.row-index c.row-item.result c.in_ok-object.object c.as_str.result.now
    (string_bytes c.loop-row.out) (string_bytes c.push_str.new.self) (string_bytes c.push.new.self)
    c.loop-row-test.true c.row-item.is c.in_ok-object.ensures (λ h. c.as_str.ensures.value ∙ c.in_ok-to_string.ensures.text h)
    c.loop-row.invariant c.in_ok-push_str.ensures.bytes ends
