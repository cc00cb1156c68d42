use Rattle.std.proofs.Common.{◌≡◌, ◌≢◌, [], sym, ap, ◌∙◌, arith, rules, length}
use Rattle.std.proofs.lemmas.List.{nil_from_length}
use Rattle.pep508_text.proofs.SuffixLaws.{suffix_then}
use Rattle.requirement_lines.specs.Character.{characters}
use Rattle.requirement_lines.specs.Pieces.{line_of}
use Rattle.requirement_lines.specs.Logical.{logical_lines, trimmed}
use Rattle.requirement_lines.proofs.PlaceLaws.{characters_nil}
use Rattle.requirement_lines.proofs.LogicalLaws.{with_text-nil}
use Rattle.requirement_lines.proofs.logical.next_line.Goals as goal

pub loop-rest-preserved : goal.loop-rest-preserved
loop-rest-preserved c =
    let i = c.loop-rest.invariant in
    let zero : length c.in_ok-line.line.items ≡ 0 = search rules in
    let none : trimmed (line_of c.in_ok-parts.parts.items) ≡ [] = ap (λ x. trimmed (line_of x)) (sym c.as_slice.ensures.value) ∙ sym c.in_ok-line.ensures.line ∙ ap line_of (nil_from_length _ zero) in
    let begun : c.loop-rest.rest.now ≢ [] = λ e. search rules in
    let shorter = c.in_ok-parts.ensures.shorter begun in
    record {
      within = omega (arith, shorter);
      lines = i.lines ∙ c.in_ok-parts.ensures.line begun ∙ with_text-nil _ none;
      suffix = suffix_then i.suffix c.in_ok-parts.ensures.suffix;
    }

pub returns-clause-line : goal.returns-clause-line
returns-clause-line c =
    let none : length c.loop-rest.rest.now ≡ 0 = search rules in
    c.loop-rest.invariant.lines ∙ ap logical_lines (ap characters (nil_from_length _ none) ∙ characters_nil)

pub returns-then-not-is_empty-clause-suffix : goal.returns-then-not-is_empty-clause-suffix
returns-then-not-is_empty-clause-suffix c = suffix_then c.loop-rest.invariant.suffix c.in_ok-parts.ensures.suffix
