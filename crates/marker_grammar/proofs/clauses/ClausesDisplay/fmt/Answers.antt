-- The first clause and those behind it are the whole text.
use Rattle.std.proofs.Common.{List, arith, refl, subst}
use Rattle.std.proofs.lemmas.Grind.{put_two}
use Rattle.std.specs.Fmt.{HasWritten}
use Rattle.marker_parts.specs.declared.expression.MarkerExpression.{MarkerExpression}
use Rattle.marker_grammar.specs.Text.{part_text}
use Rattle.marker_grammar.proofs.DisplayLaws.{several}
use Rattle.marker_grammar.proofs.clauses.ClausesDisplay.fmt.Goals as goal

pub returns-in_ok-write_part-in-len1-up-clause-writes :
    goal.returns-in_ok-write_part-in-len1-up-clause-writes
returns-in_ok-write_part-in-len1-up-clause-writes g c = λ plain ok.
    let first : HasWritten g.W.Write.write_str_gives c.args.f.now (part_text c.first-item.result.items) c.write_part.new.f =
    subst (λ (x : List MarkerExpression). HasWritten g.W.Write.write_str_gives c.args.f.now (part_text x) c.write_part.new.f)
    c.deref-in-len1-up.ensures.value (c.in_ok-write_part-in-len1-up.ensures plain refl) in
    put_two _ _ _ _ _ _ _ first (c.write_other_clauses.ensures first.plain ok)
    (several c.args.self.now.0.now c.first-item.result (omega arith) (λ e. omega arith) c.first-item.is)
