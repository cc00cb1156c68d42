use Rattle.std.proofs.Common.{◌≡◌, ◌≤◌, ◌++◌, false, drop, take}
use Rattle.pep508_names.proofs.NameLaws.{squeeze}
use Rattle.pep508_names.proofs.normal.normalize.Given as goal

-- what is written so far and what the rest will make of it are what the whole name makes
abbrev pub invariant-loop-i : goal.invariant-loop-i
invariant-loop-i l = record {
  fits : l.len ≤ l.i;
  written : squeeze false l.fn.name ≡ take l.len l.name ++ squeeze l.follows_separator (drop l.i l.name);
}
