use Rattle.std.proofs.Common.{◌≡◌, ◌+◌, ◌-◌, get_or, drop, length, sym, ap, ◌∙◌, arith}
use Rattle.std.specs.Prelude.{encode_utf8_all}
use Rattle.std.specs.Str.{chars}
use Rattle.requirement_lines.specs.Character.{after}
use Rattle.requirement_lines.specs.Pieces.{line_of}
use Rattle.requirement_lines.specs.Reports as spec
use Rattle.requirement_lines.proofs.LogicalLaws.{no_piece, line_of-drop}
use Rattle.requirement_lines.proofs.ReportLaws.{place-within, place-behind, end_of, end_of-none, end_of-some}
use Rattle.requirement_lines.proofs.reports.place_at.Goals as goal
use Rattle.requirement_lines.proofs.reports.place_at.Goals.{then-size-gt0, else-size-gt0}

pub returns-then-skipped-size : goal.returns-then-skipped-size
returns-then-skipped-size c =
    let p = get_or c.args.pieces.now c.loop-index.index no_piece in
    let rest = line_of (drop (c.loop-index.index + 1) c.args.pieces.now) in
    let size : c.size-size.result ≡ length (encode_utf8_all (chars p.text.now)) = c.size-size.ensures in
    let cut : c.after.result ≡ after p.place c.loop-index.skipped = c.after.ensures in
    cut ∙ sym (c.loop-index.invariant ∙ ap (λ x. spec.place_at c.loop-index.end x c.loop-index.skipped) (line_of-drop c.args.pieces.now c.loop-index.index (omega arith))
    ∙ place-within c.loop-index.end p.place c.loop-index.skipped (chars p.text.now) rest (omega (arith, size)))

pub loop-index-preserved : goal.loop-index-preserved
loop-index-preserved c =
    let p = get_or c.args.pieces.now c.loop-index.index no_piece in
    let rest = line_of (drop (c.loop-index.index + 1) c.args.pieces.now) in
    let size : c.size-size.result ≡ length (encode_utf8_all (chars p.text.now)) = c.size-size.ensures in
    let end : end_of c.loop-index.end p.place (chars p.text.now) ≡ c.if-size-gt0.end = elim c.if-size-gt0.branch [
      | then-size-gt0 w ↦ end_of-some c.loop-index.end p.place (chars p.text.now) (omega (arith, size)) ∙ ap (after p.place) (sym size) ∙ sym w.after-end.ensures ∙ sym w.end-is
      | else-size-gt0 w ↦ end_of-none c.loop-index.end p.place (chars p.text.now) (omega (arith, size)) ∙ sym w.end-is
    ] in
    c.loop-index.invariant ∙ ap (λ x. spec.place_at c.loop-index.end x c.loop-index.skipped) (line_of-drop c.args.pieces.now c.loop-index.index (omega arith))
    ∙ place-behind c.loop-index.end p.place c.loop-index.skipped (chars p.text.now) rest (omega (arith, size))
    ∙ ap (λ n. spec.place_at n rest (c.loop-index.skipped - length (encode_utf8_all (chars p.text.now)))) end
    ∙ ap (λ n. spec.place_at c.if-size-gt0.end rest (c.loop-index.skipped - n)) (sym size)
