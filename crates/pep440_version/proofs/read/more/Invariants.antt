use Rattle.std.proofs.Common.{◌≡◌, ◌++◌, ◌-◌, length}
use Rattle.pep440_version.specs.Reading.{more_at}
use Rattle.pep440_version.proofs.read.more.Given as goal

abbrev pub invariant-numbers : goal.invariant-numbers
invariant-numbers l = (l.numbers.items ++ (more_at (length l.text - l.step) l.rest).0 ≡ l.initial.numbers.items ++ (more_at (length l.text) l.text).0)
    × ((more_at (length l.text - l.step) l.rest).1 ≡ (more_at (length l.text) l.text).1)
