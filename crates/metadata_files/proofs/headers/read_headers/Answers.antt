use Rattle.std.proofs.Common.{◌≡◌, ◌≢◌, [], length, sym, ap, ◌∙◌, subst, rules}
use Rattle.std.proofs.lemmas.List.{nil_from_length}
use Rattle.requirement_lines.specs.Character.{characters}
use Rattle.requirement_lines.specs.Reports.{text_of}
use Rattle.requirement_lines.proofs.PlaceLaws.{characters_nil}
use Rattle.metadata_files.specs.Fields.{IsKind}
use Rattle.metadata_files.specs.Lines.{folded_lines}
use Rattle.metadata_files.proofs.HeaderLaws.{reading_more, reading_ended, reading_empty, reading_stray}
use Rattle.metadata_files.proofs.headers.read_headers.Goals as goal

pub returns-in_default : goal.returns-in_default
returns-in_default c =
    let begun : c.loop-rest.rest.now ≢ [] = λ e. search rules in
    reading_stray c.loop-rest.invariant.read (c.split_folded.ensures.lines begun) (sym c.is_empty-in-loop-rest.ensures ∙ c.if-is_empty.false) c.in_default.ensures

pub returns-then-is_empty : goal.returns-then-is_empty
returns-then-is_empty c =
    let begun : c.loop-rest.rest.now ≢ [] = λ e. search rules in
    reading_empty c.loop-rest.invariant.read (c.split_folded.ensures.lines begun) (sym c.is_empty-in-loop-rest.ensures ∙ c.if-is_empty.true)

pub loop-rest-preserved : goal.loop-rest-preserved
loop-rest-preserved c =
    let begun : c.loop-rest.rest.now ≢ [] = λ e. search rules in
    let name = c.in-Some.ensures.0 in
    record {
      read = reading_more c.loop-rest.fields.items c.push.new.self.items c.field_of.result c.loop-rest.invariant.read (c.split_folded.ensures.lines begun) c.in-Some.ensures.1
          (subst (λ x. IsKind (text_of x) c.field_of.result.kind) (sym name) c.field_of.ensures.kind) (cc) c.in_ok-push.ensures.items;
      utf8 = c.split_folded.ensures.suffix.utf8;
    }

pub returns : goal.returns
returns c =
    let none : length c.loop-rest.rest.now ≡ 0 = search rules in
    reading_ended c.loop-rest.invariant.read (ap (λ x. folded_lines (characters x)) (nil_from_length _ none) ∙ ap folded_lines characters_nil)
