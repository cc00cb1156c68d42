use Rattle.std.proofs.Common.{sym, ap, ◌∙◌}
use Rattle.marker_diagrams.specs.Id.{same_id}
use Rattle.marker_nodes.proofs.Firsts.{first_false, second_false, opposites, first_true, second_true, not_short}
use Rattle.marker_nodes.proofs.first.short_cut.Goals as goal

pub returns-then-eq-clause-short : goal.returns-then-eq-clause-short
returns-then-eq-clause-short c = λ nodes i j. first_false c.args.a c.args.b nodes i j (sym c.if-eq.ensures)

pub returns-then-eq-2-clause-short : goal.returns-then-eq-2-clause-short
returns-then-eq-2-clause-short c = λ nodes i j. first_true c.args.a c.args.b nodes i j (sym c.if-eq-2.ensures)

pub returns-then-eq-3-clause-short : goal.returns-then-eq-3-clause-short
returns-then-eq-3-clause-short c = λ nodes i j. second_false c.args.a c.args.b nodes i j (sym c.if-eq-3.ensures)

pub returns-then-eq-4-clause-short : goal.returns-then-eq-4-clause-short
returns-then-eq-4-clause-short c = λ nodes i j. second_true c.args.a c.args.b nodes i j (sym c.if-eq-4.ensures)

pub returns-then-eq-5-clause-short : goal.returns-then-eq-5-clause-short
returns-then-eq-5-clause-short c = λ nodes i j. opposites c.args.a c.args.b nodes i j (sym (c.if-eq-5.ensures ∙ ap (same_id c.args.a) c.not.ensures))

pub returns-clause-other : goal.returns-clause-other
returns-clause-other c = not_short c.args.a c.args.b (sym c.if-eq.ensures) (sym c.if-eq-3.ensures) (sym (c.if-eq-5.ensures ∙ ap (same_id c.args.a) c.not.ensures)) (sym c.if-eq-2.ensures) (sym c.if-eq-4.ensures) (sym c.if-eq-6.ensures)
