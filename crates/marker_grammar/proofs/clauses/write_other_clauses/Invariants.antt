use Rattle.std.proofs.Common.{take}
use Rattle.std.specs.Fmt.{HasWritten, IsPlainFormatter}
use Rattle.std.specs.List.{flat_map}
use Rattle.marker_grammar.specs.Text.{next_clause_text}
use Rattle.marker_grammar.proofs.clauses.write_other_clauses.Given as goal

abbrev pub invariant-loop-terms : goal.invariant-loop-terms
invariant-loop-terms g l =
    IsPlainFormatter l.initial.f → HasWritten g.W.Write.write_str_gives l.initial.f (flat_map (λ terms. next_clause_text terms.items) (take l.terms-index l.clauses)) l.f
