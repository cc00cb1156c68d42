use Rattle.std.proofs.Common.{◌≡◌, drop}
use Rattle.std.specs.Prelude.{map}
use Rattle.requirement_lines.specs.Reading.{spelled_of}
use Rattle.requirement_options.specs.Reading.{outcome_of}
use Rattle.requirement_options.specs.Found.{resumed}
use Rattle.requirement_options.specs.declared.reading.Mode.TheVariants.{Ready}
use Rattle.requirement_options.proofs.reading.read_words.Given as goal

abbrev pub invariant-loop-index : goal.invariant-loop-index
invariant-loop-index l = outcome_of Ready (map spelled_of l.words) ≡ resumed l.found (outcome_of l.mode (map spelled_of (drop l.index l.words)))
