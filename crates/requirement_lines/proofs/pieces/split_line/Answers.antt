use Rattle.std.proofs.Common.{◌∷◌, refl, sym, ap, ◌∙◌, arith}
use Rattle.requirement_lines.specs.Physical.{physical_lines}
use Rattle.requirement_lines.specs.Character.{characters}
use Rattle.requirement_lines.specs.Pieces.{characters_of}
use Rattle.requirement_lines.proofs.PlaceLaws.{end_then, end_suffix, end_characters, text_from_none, characters_nil}
use Rattle.pep508_text.proofs.SuffixLaws.{suffix_nil}
use Rattle.requirement_lines.proofs.LineLaws.{in_line_more, in_line_ended, in_line_last}
use Rattle.requirement_lines.proofs.pieces.split_line.Goals as goal

pub loop-c-preserved : goal.loop-c-preserved
loop-c-preserved c =
    let i = c.loop-c.invariant in
    record {
      end = end_then i.end c.in-Some.ensures.end;
      within = omega (arith, c.in-Some.ensures.shorter);
      line = in_line_more _ i.line c.in-Some.ensures.characters (sym c.is_break.ensures ∙ c.if-is_break.false);
    }

pub returns-then-is_break-clause-lines : goal.returns-then-is_break-clause-lines
returns-then-is_break-clause-lines c = λ some.
    let i = c.loop-c.invariant in
    let end = end_then (end_then i.end c.in-Some.ensures.end) c.after_break-behind.ensures.end in
    let breaks = c.after_break-behind.ensures.lines _ refl (sym c.is_break.ensures ∙ c.if-is_break.true) in
    in_line_ended (characters_of c.front-line.result) _ i.line c.front-line.ensures.parts (ap physical_lines c.in-Some.ensures.characters ∙ breaks)
    ∙ ap (λ x. characters_of c.front-line.result ∷ physical_lines x) (end_characters refl end)

pub returns-clause-lines : goal.returns-clause-lines
returns-clause-lines c = λ some.
    let i = c.loop-c.invariant in
    in_line_last i.line c.in_default.ensures.characters (λ e. some (text_from_none _ _ c.utf8.text e)) ∙ ap (λ x. characters c.args.text.now ∷ physical_lines x) (sym characters_nil)

pub returns-then-is_break-clause-suffix : goal.returns-then-is_break-clause-suffix
returns-then-is_break-clause-suffix c =
    let i = c.loop-c.invariant in
    end_suffix (end_then (end_then i.end c.in-Some.ensures.end) c.after_break-behind.ensures.end)

pub returns-clause-suffix : goal.returns-clause-suffix
returns-clause-suffix c = suffix_nil c.args.text.now
