use Rattle.std.proofs.Common.{◌≡◌, ◌++◌, length, sym, ap, ◌∙◌, subst}
use Rattle.std.specs.Option.{option_to_list}
use Rattle.std.proofs.lemmas.List.{append-nil}
use Rattle.pep508_text.proofs.SuffixLaws.{suffix_then}
use Rattle.requirement_lines.specs.Pieces.{line_of}
use Rattle.formatting_commands.specs.Finding.{EditsLine}
use Rattle.formatting_commands.proofs.FindingLaws.{editing_more, editing_ended}
use Rattle.formatting_commands.proofs.finding.find_edits.Goals as goal
use Rattle.formatting_commands.proofs.finding.find_edits.Goals.{in-Some-found+in_ok-push, in_default-found}

pub loop-edits-preserved : goal.loop-edits-preserved
loop-edits-preserved g c =
    let first = rw c.in-Some.is at c.in_ok-line.ensures.line in
    let end = rw c.in-Some.is at c.in_ok-line.ensures.suffix in
    let line = line_of c.in-Some.line.items in
    let found = option_to_list c.in_ok-found.found in
    let edits = subst (λ x. EditsLine g.W.Rewriter.answers (length c.args.file.now) x c.loop-edits.rest.now c.in-Some.after.now c.loop-edits.rewriter found c.edit_line.new.rewriter) (ap line_of c.as_slice.ensures.value) c.in_ok-found.ensures in
    let pushed : c.match-found.edits.items ≡ c.loop-edits.edits.items ++ found = elim c.match-found.branch [
      | in-Some-found+in_ok-push w ↦ ap (λ x. x.items) w.edits-is ∙ w.in_ok-push.ensures.items ∙ ap (λ x. c.loop-edits.edits.items ++ option_to_list x) (sym w.in-Some-found.is)
      | in_default-found w ↦ ap (λ x. x.items) w.edits-is ∙ sym (append-nil c.loop-edits.edits.items) ∙ ap (λ x. c.loop-edits.edits.items ++ option_to_list x) (sym w.in_default-found.is)
    ] in
    record {
      editing = editing_more g.W.Rewriter.answers (length c.args.file.now) line found c.loop-edits.invariant.editing end first edits pushed;
      suffix = suffix_then c.loop-edits.invariant.suffix end;
    }

pub returns : goal.returns
returns g c =
    let none = rw c.in_default.is at c.in_ok-line.ensures.line in
    record {
      text = c.without_mark-rest.result.now;
      suffix = c.without_mark-rest.ensures.suffix;
      unmarked = c.without_mark-rest.ensures.characters;
      found = editing_ended g.W.Rewriter.answers (length c.args.file.now) c.loop-edits.invariant.editing none;
    }
