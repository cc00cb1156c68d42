use Rattle.std.proofs.Common.{length, string_bytes}
use Rattle.requirement_lines.specs.Rest.{rest_of}
use Rattle.requirement_options.proofs.FormLaws.{Reads}
use Rattle.requirement_options.proofs.form.long_form.Given as goal

abbrev pub invariant-loop-c : goal.invariant-loop-c
invariant-loop-c l = Reads (rest_of l.word l.start) (string_bytes l.name) (rest_of l.word l.rest)

abbrev pub decreases-loop-c : goal.decreases-loop-c
decreases-loop-c l = length (rest_of l.word l.rest)
