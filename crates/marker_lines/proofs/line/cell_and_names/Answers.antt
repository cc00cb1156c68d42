use Rattle.std.proofs.Common.{◌≡◌, ◌∷◌, sym, ap, ◌∙◌, subst, Err, Result}
use Rattle.std.proofs.lemmas.Result.{err_from_is_err_and}
use Rattle.std.specs.Str.Parse.{IsNumeral}
use Rattle.marker_lines.specs.Line.{Words}
use Rattle.marker_lines.specs.LineView.{texts_of}
use Rattle.marker_lines.proofs.WordLaws.{cell_cut, cell_alone, word_alone, word_first, numeral_some}
use Rattle.marker_lines.proofs.line.cell_and_names.Goals as goal

err_same : {T E : Type 0} {a b : E} → ◌≡◌ {A = Result T E} (Err a) (Err b) → a ≡ b
err_same e = cc

pub returns-in_default-read_cell-clause-malformed : goal.returns-in_default-read_cell-clause-malformed
returns-in_default-read_cell-clause-malformed c = λ e cell names p.
    c.in_default-read_cell.ensures (subst (IsNumeral 10) (cell_alone p.words c.in_default.ensures) p.is_cell.digits)

pub returns-in_default-clause-read : goal.returns-in_default-clause-read
returns-in_default-clause-read c =
    let cell = c.in-Some-read_cell.ensures in
    record {
      number = c.args.rest.now;
      words = subst (λ x. Words c.args.rest.now (c.args.rest.now ∷ texts_of x)) (sym c.new.ensures.items) (word_alone c.in_default.ensures (numeral_some cell.digits));
      is_cell = cell;
    }

pub returns-in_default-read_cell-2-clause-malformed : goal.returns-in_default-read_cell-2-clause-malformed
returns-in_default-read_cell-2-clause-malformed c = λ e cell names p.
    let cut = cell_cut p.words c.in-Some.ensures.1 c.in-Some.ensures.0 in
    c.in_default-read_cell-2.ensures (subst (IsNumeral 10) cut.0 p.is_cell.digits)

pub returns-in_err-words-clause-malformed : goal.returns-in_err-words-clause-malformed
returns-in_err-words-clause-malformed c =
    let p = err_from_is_err_and c.from_residual.result c.from_residual.ensures.1 in
    λ e cell names q. c.in_err-words.ensures.malformed (ap Err (sym p.2 ∙ err_same (sym p.1 ∙ e))) names (cell_cut q.words c.in-Some.ensures.1 c.in-Some.ensures.0).1

pub returns-clause-read : goal.returns-clause-read
returns-clause-read c =
    let cell = c.in-Some-read_cell-2.ensures in
    record {
      number = c.in-Some.number.now;
      words = word_first c.in-Some.ensures.1 c.in-Some.ensures.0 (numeral_some cell.digits) c.in_ok-words.ensures.words;
      is_cell = cell;
    }
