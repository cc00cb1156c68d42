use Rattle.std.proofs.Common.{sym, ◌∙◌}
use Rattle.marker_lines.proofs.AskLaws.{no_bounds, one_bound, cell_digits, lower_written, upper_written, third_word}
use Rattle.marker_lines.proofs.line.cell_and_bounds.Goals as goal

pub returns-in_default : goal.returns-in_default
returns-in_default c = λ cell lower upper p. no_bounds c.in_default.ensures p

pub returns-in_default-split_word : goal.returns-in_default-split_word
returns-in_default-split_word c = λ cell lower upper p. one_bound c.in-Some.number.now c.in-Some.bounds.now c.in-Some.ensures.0 c.in-Some.ensures.1 p c.in_default-split_word.ensures

pub returns-then-is_some : goal.returns-then-is_some
returns-then-is_some c = λ cell lower upper p.
    third_word c.in-Some.number.now c.in-Some.bounds.now c.in-Some.ensures.0 c.in-Some.ensures.1 p c.in-Some-split_word.first.now c.in-Some-split_word.second.now c.in-Some-split_word.ensures.0 c.in-Some-split_word.ensures.1
    c.split_word-3.result (sym c.is_some.ensures ∙ c.if-is_some.true) c.split_word-3.ensures

pub returns-in_default-read_cell : goal.returns-in_default-read_cell
returns-in_default-read_cell c = λ cell lower upper p. c.in_default-read_cell.ensures (cell_digits c.in-Some.number.now c.in-Some.bounds.now c.in-Some.ensures.0 c.in-Some.ensures.1 p)

pub returns-in_default-read_bound : goal.returns-in_default-read_bound
returns-in_default-read_bound c = λ cell lower upper p.
    c.in_default-read_bound.ensures lower
    (lower_written c.in-Some.number.now c.in-Some.bounds.now c.in-Some.ensures.0 c.in-Some.ensures.1 p c.in-Some-split_word.first.now c.in-Some-split_word.second.now c.in-Some-split_word.ensures.0 c.in-Some-split_word.ensures.1)

pub returns-in_default-read_bound-2 : goal.returns-in_default-read_bound-2
returns-in_default-read_bound-2 c = λ cell lower upper p.
    c.in_default-read_bound-2.ensures upper
    (upper_written c.in-Some.number.now c.in-Some.bounds.now c.in-Some.ensures.0 c.in-Some.ensures.1 p c.in-Some-split_word.first.now c.in-Some-split_word.second.now c.in-Some-split_word.ensures.0 c.in-Some-split_word.ensures.1)
