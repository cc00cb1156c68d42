use Rattle.std.proofs.Common.{◌≡◌, ◌++◌, ap, ◌∙◌}
use Rattle.std.specs.Prelude.{map}
use Rattle.requirement_lines.specs.Pieces.{line_of}
use Rattle.requirement_lines.specs.Rest.{rest_of}
use Rattle.requirement_lines.specs.Reading.{spelled_of}
use Rattle.requirement_lines.proofs.PlaceLaws.{characters_nil}
use Rattle.requirement_lines.proofs.WordLaws.{words-start}
use Rattle.requirement_lines.proofs.splitting.split_words.Goals as goal

pub loop-c-init : goal.loop-c-init
loop-c-init c =
    let r = c.new-reading.result in
    let whole : rest_of c.args.line.now (record { piece = c.whole.result; next = 0 }) ≡ line_of c.args.line.now = ap (λ x. x ++ line_of c.args.line.now) (c.whole.ensures.characters ∙ characters_nil) in
    record {
      inside = c.new-reading.ensures.inside;
      split = words-start _ r.place (map spelled_of r.words.items) (line_of r.pieces.items) _ (line_of c.args.line.now) r.inside (ap (map spelled_of) c.new-reading.ensures.words) c.new-reading.ensures.inside whole;
    }
