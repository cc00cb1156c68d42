use Rattle.std.proofs.Common.{◌≡◌, drop, true}
use Rattle.pep508_names.proofs.NormalLaws.{ends_normal}
use Rattle.pep508_names.proofs.normal.is_normal.Given as goal

-- the whole text is in normal form if the rest ends one
abbrev pub invariant-loop-i : goal.invariant-loop-i
invariant-loop-i l = ends_normal true l.text ≡ ends_normal l.awaits_word (drop l.i l.text)
