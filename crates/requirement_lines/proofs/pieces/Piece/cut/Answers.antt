use Rattle.std.proofs.Common.{sym, ◌∙◌}
use Rattle.requirement_lines.proofs.PlaceLaws.{cuts_more, cuts_found, end_then}
use Rattle.requirement_lines.proofs.pieces.Piece.cut.Goals as goal

pub loop-c-preserved : goal.loop-c-preserved
loop-c-preserved c =
    let i = c.loop-c.invariant in
    record {
      end = end_then i.end c.in-Some.ensures.end;
      cuts = cuts_more _ i.cuts c.in-Some.ensures.characters (sym c.counts.ensures ∙ c.if-counts.false) c.opens-now.ensures;
    }

pub returns-then-counts-clause-front : goal.returns-then-counts-clause-front
returns-then-counts-clause-front c =
    let i = c.loop-c.invariant in
    (cuts_found _ _ i.cuts c.in-Some.ensures.characters (sym c.counts.ensures ∙ c.if-counts.true) c.front.ensures.parts).0

pub returns-then-counts-clause-follow : goal.returns-then-counts-clause-follow
returns-then-counts-clause-follow c =
    let i = c.loop-c.invariant in
    (cuts_found _ _ i.cuts c.in-Some.ensures.characters (sym c.counts.ensures ∙ c.if-counts.true) c.front.ensures.parts).1
