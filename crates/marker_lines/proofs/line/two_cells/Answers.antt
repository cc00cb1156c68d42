use Rattle.marker_lines.proofs.AskLaws.{no_second, first_digits, second_digits}
use Rattle.marker_lines.proofs.line.two_cells.Goals as goal

pub returns-in_default : goal.returns-in_default
returns-in_default c = λ left right p. no_second c.in_default.ensures p

pub returns-in_default-read_cell : goal.returns-in_default-read_cell
returns-in_default-read_cell c = λ left right p. c.in_default-read_cell.ensures (first_digits c.in-Some.first.now c.in-Some.second.now c.in-Some.ensures.0 c.in-Some.ensures.1 p)

pub returns-in_default-read_cell-2 : goal.returns-in_default-read_cell-2
returns-in_default-read_cell-2 c = λ left right p. c.in_default-read_cell-2.ensures (second_digits c.in-Some.first.now c.in-Some.second.now c.in-Some.ensures.0 c.in-Some.ensures.1 p)

pub returns : goal.returns
returns c = record {
  first = c.in-Some.first.now;
  second = c.in-Some.second.now;
  parts = c.in-Some.ensures.1;
  is_left = c.in-Some-read_cell.ensures;
  is_right = c.in-Some-read_cell-2.ensures;
}
