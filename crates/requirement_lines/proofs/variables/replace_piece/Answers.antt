use Rattle.std.proofs.Common.{◌≡◌, ◌++◌, sym, ap, ◌∙◌}
use Rattle.std.specs.Prelude.{option_map}
use Rattle.requirement_lines.specs.Pieces.{characters_of, line_of}
use Rattle.requirement_lines.specs.Variables.{value_characters}
use Rattle.requirement_lines.proofs.PlaceLaws.{end_self, end_then}
use Rattle.requirement_lines.proofs.LogicalLaws.{line_pushed}
use Rattle.requirement_lines.proofs.VariableLaws.{replacing_value, replacing_kept}
use Rattle.requirement_lines.proofs.variables.replace_piece.Goals as goal

pub loop-c-preserved-in_ok-push-2 : goal.loop-c-preserved-in_ok-push-2
loop-c-preserved-in_ok-push-2 c =
    let i = c.loop-c.invariant in
    let has = ap (option_map (λ v. v.now)) (sym c.in-Some-2.is) ∙ c.in_ok-value.ensures c.loop-c.rest.place in
    let kept : line_of c.push.new.self.items ≡ line_of c.loop-c.kept.items ++ characters_of c.front.result = line_pushed c.loop-c.kept.items c.push.new.self.items c.front.result c.in_ok-push.ensures.items in
    let new : line_of c.push-in-Some-2.new.self.items ≡ (line_of c.loop-c.kept.items ++ characters_of c.front.result) ++ value_characters c.loop-c.rest.place c.in-Some-2.value.now =
    line_pushed c.push.new.self.items c.push-in-Some-2.new.self.items c.value_piece.result c.in_ok-push-2.ensures.items ∙ ap (λ x. x ++ characters_of c.value_piece.result) kept
    ∙ ap (λ x. (line_of c.loop-c.kept.items ++ characters_of c.front.result) ++ x) c.value_piece.ensures in
    record {
      end = end_self c.in-Some.after c.in-Some.ensures.end.utf8;
      replacing = replacing_value _ _ (characters_of c.front.result) (record { char = c.in-Some.c; place = c.loop-c.rest.place }) c.in-Some-2.value.now i.replacing c.if-within.false c.in-Some.ensures.characters has c.front.ensures.parts new;
    }

pub loop-c-preserved : goal.loop-c-preserved
loop-c-preserved c =
    let i = c.loop-c.invariant in
    let has = ap (option_map (λ v. v.now)) (sym c.in_default-2.is) ∙ c.in_ok-value.ensures c.loop-c.rest.place in
    record {
      end = end_then i.end c.in-Some.ensures.end;
      replacing = replacing_kept _ _ (record { char = c.in-Some.c; place = c.loop-c.rest.place }) i.replacing c.if-within.false c.in-Some.ensures.characters has;
    }
