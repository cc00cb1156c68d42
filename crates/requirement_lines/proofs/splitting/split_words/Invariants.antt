use Rattle.std.proofs.Common.{◌≡◌, length}
use Rattle.requirement_lines.specs.Pieces.{line_of}
use Rattle.requirement_lines.specs.Rest.{rest_of}
use Rattle.requirement_lines.specs.Words.{split, words_of}
use Rattle.requirement_lines.specs.Reading.{goes_on, resumed}
use Rattle.requirement_lines.specs.declared.places.Source.TheVariants.{File}
use Rattle.requirement_lines.proofs.splitting.split_words.Given as goal

abbrev pub invariant-loop-c : goal.invariant-loop-c
invariant-loop-c l = record {
  inside : l.reading.inside ≡ goes_on l.quoting;
  split : words_of (record { to_end = 0; source = File }) (line_of l.line) ≡ resumed l.reading (split l.quoting l.opened (rest_of l.line l.rest));
}

abbrev pub decreases-loop-c : goal.decreases-loop-c
decreases-loop-c l = length (rest_of l.line l.rest)
