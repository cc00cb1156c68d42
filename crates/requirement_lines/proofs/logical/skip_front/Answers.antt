use Rattle.std.proofs.Common.{◌≡◌, ◌≢◌, ◌++◌, ◌+◌, ◌∷◌, [], drop, get_or, sym, ap, ◌∙◌, arith, rules}
use Rattle.std.proofs.lemmas.List.{take_rest}
use Rattle.requirement_lines.specs.Pieces.{characters_of, line_of}
use Rattle.requirement_lines.proofs.LogicalLaws.{no_piece, line_of-drop, line_of-append, line_pushed, front_blank, front_found}
use Rattle.requirement_lines.proofs.logical.skip_front.Goals as goal

pub loop-index-preserved : goal.loop-index-preserved
loop-index-preserved c =
    let none : characters_of c.skip-front.result ≡ [] = search rules in
    let piece = characters_of (get_or c.args.pieces.now c.loop-index.index no_piece) in
    record {
      line = front_blank (line_of c.args.pieces.now) (line_of (drop c.loop-index.index c.args.pieces.now)) (line_of (drop (c.loop-index.index + 1) c.args.pieces.now)) piece c.loop-index.invariant.line (line_of-drop c.args.pieces.now c.loop-index.index (omega arith)) (sym c.skip-front.ensures ∙ none);
      none = c.loop-index.invariant.none;
    }

pub returns-then-not-is_empty : goal.returns-then-not-is_empty
returns-then-not-is_empty c =
    let some : characters_of c.skip-front.result ≢ [] = search rules in
    let i = c.loop-index.invariant in
    let piece = characters_of (get_or c.args.pieces.now c.loop-index.index no_piece) in
    let after = drop (c.loop-index.index + 1) c.args.pieces.now in
    let pushed : c.push.new.self.items ≡ c.loop-index.kept.items ++ (c.skip-front.result ∷ []) = c.in_ok-push.ensures.items in
    let first : line_of c.push.new.self.items ≡ characters_of c.skip-front.result = line_pushed c.loop-index.kept.items c.push.new.self.items c.skip-front.result pushed ∙ ap (λ x. line_of x ++ characters_of c.skip-front.result) i.none in
    let all : c.extend_from_slice.new.self.items ≡ c.push.new.self.items ++ after = c.in_ok-extend_from_slice.ensures.items ∙ ap (λ x. c.push.new.self.items ++ x) (take_rest c.args.pieces.now (c.loop-index.index + 1)) in
    ap line_of all ∙ line_of-append c.push.new.self.items after ∙ ap (λ x. x ++ line_of after) (first ∙ c.skip-front.ensures)
    ∙ sym (front_found (line_of c.args.pieces.now) (line_of (drop c.loop-index.index c.args.pieces.now)) (line_of after) piece i.line (line_of-drop c.args.pieces.now c.loop-index.index (omega arith)) (λ e. some (c.skip-front.ensures ∙ e)))
