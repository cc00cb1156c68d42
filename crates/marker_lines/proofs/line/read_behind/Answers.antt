use Rattle.std.proofs.Common.{◌≡◌, subst, ap, sym, ◌∙◌, Err, Result}
use Rattle.std.proofs.lemmas.Result.{err_from_is_err_and}
use Rattle.marker_lines.specs.declared.word.Word.TheVariants.{OnOne, OnTwo}
use Rattle.marker_lines.specs.Line.{Takes, run, key_and_value, marker, one_cell, two_cells, cell_and_names, cell_and_bounds}
use Rattle.marker_lines.proofs.AskLaws.{no_key, not_two, not_named, not_ranged}
use Rattle.marker_lines.proofs.line.read_behind.Goals as goal

err_same : {T E : Type 0} {a b : E} → ◌≡◌ {A = Result T E} (Err a) (Err b) → a ≡ b
err_same e = cc

pub returns-in-Some-clause-takes : goal.returns-in-Some-clause-takes
returns-in-Some-clause-takes c = rw c.in-Env.is (key_and_value c.in-Some.ensures.1 c.in-Some.ensures.0)

pub returns-in-None-clause-malformed : goal.returns-in-None-clause-malformed
returns-in-None-clause-malformed c = λ e request t. no_key c.in-None.ensures (subst (λ w. Takes w c.args.text.now request) c.in-Env.is t)

pub returns-in-Parse-clause-takes : goal.returns-in-Parse-clause-takes
returns-in-Parse-clause-takes c = rw c.in-Parse.is marker

pub returns-in-Some-read_cell-clause-takes : goal.returns-in-Some-read_cell-clause-takes
returns-in-Some-read_cell-clause-takes c =
    rw c.in-OnOne.is (subst (λ r. Takes (OnOne c.in-OnOne.command) c.args.text.now (run r)) (sym c.on.ensures) (one_cell {command = c.in-OnOne.command} c.in-Some-read_cell.ensures))

pub returns-in-Some-two_cells-clause-takes : goal.returns-in-Some-two_cells-clause-takes
returns-in-Some-two_cells-clause-takes c =
    rw c.in-OnTwo.is (subst (λ r. Takes (OnTwo c.in-OnTwo.command) c.args.text.now (run r)) (sym c.on-in-Some-two_cells.ensures) (two_cells {command = c.in-OnTwo.command} c.in-Some-two_cells.ensures))

pub returns-in-None-two_cells-clause-malformed : goal.returns-in-None-two_cells-clause-malformed
returns-in-None-two_cells-clause-malformed c = λ e request t. not_two c.in-None-two_cells.ensures (subst (λ w. Takes w c.args.text.now request) c.in-OnTwo.is t)

pub returns-in_ok-cell-in-WithNames-clause-takes : goal.returns-in_ok-cell-in-WithNames-clause-takes
returns-in_ok-cell-in-WithNames-clause-takes c = rw c.in-WithNames.is (cell_and_names c.in_ok-cell-in-WithNames.ensures.read)

pub returns-in-Some-cell_and_bounds-clause-takes : goal.returns-in-Some-cell_and_bounds-clause-takes
returns-in-Some-cell_and_bounds-clause-takes c = rw c.in-WithRange.is (cell_and_bounds c.in-Some-cell_and_bounds.ensures)

pub returns-in-None-cell_and_bounds-clause-malformed : goal.returns-in-None-cell_and_bounds-clause-malformed
returns-in-None-cell_and_bounds-clause-malformed c = λ e request t. not_ranged c.in-None-cell_and_bounds.ensures (subst (λ w. Takes w c.args.text.now request) c.in-WithRange.is t)

pub returns-in_err-cell-in-WithNames-clause-malformed : goal.returns-in_err-cell-in-WithNames-clause-malformed
returns-in_err-cell-in-WithNames-clause-malformed c =
    let p = err_from_is_err_and c.from_residual.result c.from_residual.ensures.1 in
    λ e request t. not_named (c.in_err-cell-in-WithNames.ensures.malformed (ap Err (sym p.2 ∙ err_same (sym p.1 ∙ e)))) (subst (λ w. Takes w c.args.text.now request) c.in-WithNames.is t)
