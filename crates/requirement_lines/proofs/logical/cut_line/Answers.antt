use Rattle.std.proofs.Common.{◌≡◌, ◌+◌, ◌++◌, true, drop, get_or, sym, arith}
use Rattle.std.proofs.lemmas.List.{append-nil}
use Rattle.requirement_lines.specs.Pieces.{characters_of, line_of}
use Rattle.requirement_lines.specs.Marks.{before}
use Rattle.requirement_lines.proofs.LogicalLaws.{no_piece, behind, line_of-drop, line_pushed, cut_more}
use Rattle.requirement_lines.proofs.logical.cut_line.Goals as goal
use Rattle.requirement_lines.proofs.logical.cut_line.Goals.{In_ok-push}

-- what was kept so far, and what follows it
kept : (c : In_ok-push) → before c.args.mark true (line_of c.args.pieces.now)
    ≡ line_of c.push.new.self.items ++ behind c.args.mark c.cut-follow.result.1 (line_of (drop (c.loop-index.index + 1) c.args.pieces.now))
kept c =
    cut_more c.args.mark c.loop-index.may (line_of c.args.pieces.now) (line_of c.loop-index.kept.items) (line_of c.push.new.self.items) (characters_of c.cut-follow.result.0) (line_of (drop c.loop-index.index c.args.pieces.now))
    (line_of (drop (c.loop-index.index + 1) c.args.pieces.now)) c.cut-follow.result.1 c.loop-index.invariant (characters_of (get_or c.args.pieces.now c.loop-index.index no_piece))
    (line_of-drop c.args.pieces.now c.loop-index.index (omega arith)) c.cut-follow.ensures.front c.cut-follow.ensures.follow (line_pushed c.loop-index.kept.items c.push.new.self.items c.cut-follow.result.0 c.in_ok-push.ensures.items)

pub loop-index-preserved : goal.loop-index-preserved
loop-index-preserved c = rw c.in-Some.is at (kept (goal.at.loop-index-preserved c).In_ok-push)

pub returns-in-None : goal.returns-in-None
returns-in-None c = sym (rw (c.in-None.is, append-nil) at (kept (goal.at.returns-in-None c).In_ok-push))
