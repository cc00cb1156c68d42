use Rattle.std.proofs.Common.{◌≡◌, ◌+◌, ◌*◌, ◌≤◌, length}
use denote.Text.{Utf8}
use denote.Shadow.{shadow}
use Rattle.pep508_errors.specs.Underline as spec
use Rattle.pep508_errors.proofs.underline.columns_before.Given as goal

-- what is counted, and what is to be counted
abbrev pub invariant-loop-c : goal.invariant-loop-c
invariant-loop-c l =
    (spec.columns_before l.initial.text l.initial.left ≡ l.columns + spec.columns_before l.rest l.left)
    × (l.columns + 2 * length l.rest ≤ 2 * length l.initial.text) × shadow (Utf8 l.rest)

abbrev pub decreases-loop-c : goal.decreases-loop-c
decreases-loop-c l = length l.rest
