use Rattle.std.proofs.Common.{◌++◌, List, ℕ, length, string_bytes}
use denote.Text.{Utf8}
use denote.Shadow.{shadow}
use Rattle.pep508_urls.specs.Variables.{Expands, value_of}
use Rattle.pep508_urls.proofs.variables.expanded_text.Given as goal

abbrev pub invariant-loop-before : goal.invariant-loop-before
invariant-loop-before l =
    record {
      utf8 : shadow (Utf8 l.rest);
      expands : (tail : List ℕ) → Expands (value_of l.surroundings) l.rest tail → Expands (value_of l.surroundings) l.text (string_bytes l.expanded ++ tail);
    }

abbrev pub decreases-loop-before : goal.decreases-loop-before
decreases-loop-before l = length l.rest
