use Rattle.std.proofs.Common.{◌≡◌, ◌++◌, ◌+◌, ◌∷◌, [], drop, get_or, sym, ap, ◌∙◌, arith}
use Rattle.std.proofs.lemmas.List.{take_rest}
use Rattle.requirement_lines.specs.Pieces.{characters_of, line_of}
use Rattle.requirement_lines.specs.Marks.{from_mark}
use Rattle.requirement_lines.specs.declared.sets.Mark.TheVariants.{Options}
use Rattle.requirement_lines.proofs.LogicalLaws.{no_piece, line_of-drop, line_of-append, line_pushed, from_mark-none, from_mark-found}
use Rattle.requirement_lines.proofs.logical.options_of.Goals as goal

pub loop-index-preserved : goal.loop-index-preserved
loop-index-preserved c =
    let i = c.loop-index.invariant in
    let piece = characters_of (get_or c.args.line.now c.loop-index.index no_piece) in
    record {
      line = i.line ∙ ap (from_mark Options c.loop-index.may) (line_of-drop c.args.line.now c.loop-index.index (omega arith))
          ∙ from_mark-none Options c.loop-index.may c.in-Some.next piece (line_of (drop (c.loop-index.index + 1) c.args.line.now)) (sym c.in-Some.is ∙ c.cut.ensures.follow);
      none = i.none;
    }

pub returns-in-None : goal.returns-in-None
returns-in-None c =
    let i = c.loop-index.invariant in
    let piece = characters_of (get_or c.args.line.now c.loop-index.index no_piece) in
    let after = drop (c.loop-index.index + 1) c.args.line.now in
    let pushed : c.push.new.self.items ≡ c.loop-index.kept.items ++ (c.from_mark.result ∷ []) = c.in_ok-push-in-None.ensures.items in
    let first : line_of c.push.new.self.items ≡ characters_of c.from_mark.result = line_pushed c.loop-index.kept.items c.push.new.self.items c.from_mark.result pushed ∙ ap (λ x. line_of x ++ characters_of c.from_mark.result) i.none in
    let all : c.extend_from_slice.new.self.items ≡ c.push.new.self.items ++ after = c.in_ok-extend_from_slice-in-None.ensures.items ∙ ap (λ x. c.push.new.self.items ++ x) (take_rest c.args.line.now (c.loop-index.index + 1)) in
    ap line_of all ∙ line_of-append c.push.new.self.items after ∙ ap (λ x. x ++ line_of after) (first ∙ c.from_mark.ensures)
    ∙ sym (i.line ∙ ap (from_mark Options c.loop-index.may) (line_of-drop c.args.line.now c.loop-index.index (omega arith))
    ∙ from_mark-found Options c.loop-index.may piece (line_of after) (sym c.in-None.is ∙ c.cut.ensures.follow))
