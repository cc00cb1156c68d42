use Rattle.std.proofs.Common.{◌≡◌, ◌<◌, length, sym, ap, ◌∙◌, rules, arith}
use Rattle.std.specs.Prelude.{Some, option_map, encode_utf8_all, string_bytes}
use Rattle.std.proofs.lemmas.Bool.{eq-eqb, ne_eqb}
use Rattle.requirement_lines.specs.Rest.{rest_of}
use Rattle.requirement_lines.specs.Variables.{braced_name, not_empty}
use Rattle.requirement_lines.proofs.VariableLaws.{naming_more, naming_closed, named_none, named_some}
use Rattle.requirement_lines.proofs.variables.braced_name.Goals as goal
use Rattle.requirement_lines.proofs.variables.braced_name.Goals.{then-is_empty, else-is_empty}

pub loop-c-preserved : goal.loop-c-preserved
loop-c-preserved c = naming_more _ c.loop-c.invariant c.in-Some.ensures.0 (ne_eqb _ _ c.if-c-eq125.false) (sym c.is_name_character.ensures ∙ c.if-not-is_name_character.false) c.in_ok-push.ensures.bytes

pub returns-then-c-eq125 : goal.returns-then-c-eq125
returns-then-c-eq125 c =
    let n = c.loop-c.invariant in
    let closed : braced_name (rest_of c.args.line.now c.args.rest) ≡ not_empty n.name = naming_closed _ n c.in-Some.ensures.0 (eq-eqb _ _ c.if-c-eq125.true) in
    elim c.if-is_empty.branch [
      | then-is_empty w ↦ let zero : length (string_bytes c.loop-c.name) ≡ 0 = search rules in
          ap (option_map string_bytes) w.result-is ∙ sym (ap (option_map encode_utf8_all) (closed ∙ named_none n.name (ap length (sym n.bytes) ∙ zero)))
      | else-is_empty w ↦ let some : 0 < length (string_bytes c.loop-c.name) = search rules in
          let size = ap length n.bytes in
          ap (option_map string_bytes) w.result-is ∙ ap (λ x. Some x) n.bytes ∙ sym (ap (option_map encode_utf8_all) (closed ∙ named_some n.name (omega arith)))
    ]
