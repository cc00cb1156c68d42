use Rattle.std.proofs.Common.{◌≡◌, ◌≢◌, ap, sym, ◌∙◌, arith, rules, [], length}
use Rattle.std.proofs.lemmas.List.{nil_from_length}
use Rattle.pep508_text.proofs.SuffixLaws.{suffix_then}
use Rattle.requirement_lines.specs.Character.{characters}
use Rattle.requirement_lines.proofs.PlaceLaws.{characters_nil}
use Rattle.requirement_lines.proofs.LogicalLaws.{joins_more, joins_ended, joins_last, line_pushed}
use Rattle.requirement_lines.proofs.logical.join.Goals as goal

pub returns-then-not-is_continued-clause-suffix : goal.returns-then-not-is_continued-clause-suffix
returns-then-not-is_continued-clause-suffix c = suffix_then c.loop-rest.invariant.suffix c.split_line.ensures.suffix

pub returns-then-not-is_continued-clause-line : goal.returns-then-not-is_continued-clause-line
returns-then-not-is_continued-clause-line c = λ some.
    let i = c.loop-rest.invariant in
    joins_ended (characters c.split_line.result.1.now) i.joins (c.split_line.ensures.lines (λ e. search rules)) (sym c.is_continued.ensures ∙ c.if-not-is_continued.true) c.part.ensures (line_pushed c.loop-rest.parts.items _ c.part.result c.in_ok-push.ensures.items)

pub loop-rest-preserved : goal.loop-rest-preserved
loop-rest-preserved c =
    let i = c.loop-rest.invariant in
    let begun : c.loop-rest.rest.now ≢ [] = λ e. search rules in
    let shorter = c.split_line.ensures.shorter begun in
    record {
      joins = joins_more i.joins (c.split_line.ensures.lines begun) (sym c.is_continued.ensures ∙ c.if-not-is_continued.false) c.part.ensures (line_pushed c.loop-rest.parts.items _ c.part.result c.in_ok-push.ensures.items);
      within = omega (arith, shorter);
      suffix = suffix_then i.suffix c.split_line.ensures.suffix;
    }

pub returns-clause-line : goal.returns-clause-line
returns-clause-line c = λ some.
    let none : length c.loop-rest.rest.now ≡ 0 = search rules in
    joins_last c.loop-rest.invariant.joins (ap characters (nil_from_length _ none) ∙ characters_nil)
