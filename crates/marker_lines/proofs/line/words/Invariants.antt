use Rattle.std.proofs.Common.{List, ℕ, ◌++◌, length}
use Rattle.std.specs.Str.{IsUtf8}
use Rattle.marker_lines.specs.Line.{Words}
use Rattle.marker_lines.specs.LineView.{texts_of}
use Rattle.marker_lines.proofs.line.words.Given as goal

abbrev pub invariant-loop-word : goal.invariant-loop-word
invariant-loop-word l = record {
  utf8 : IsUtf8 l.rest;
  grows : (others : List (List ℕ)) → Words l.rest others → Words l.text (texts_of l.words.items ++ others);
  left : (all : List (List ℕ)) → Words l.text all → (others : List (List ℕ)) × Words l.rest others;
}

abbrev pub decreases-loop-word : goal.decreases-loop-word
decreases-loop-word l = length l.rest
