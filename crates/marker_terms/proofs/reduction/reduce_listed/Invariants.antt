use Rattle.std.proofs.Common.{◌≡◌, [], take, drop, vec_len}
use Rattle.marker_terms.specs.Numbered.{left_of, number_of}
use Rattle.marker_terms.specs.Endings.{AreEndingsOf}
use Rattle.marker_terms.specs.Reduction.{judged, needed, shortened}
use Rattle.marker_terms.proofs.reduction.reduce_listed.Given as goal

abbrev pub invariant-loop-place : goal.invariant-loop-place
invariant-loop-place l = record {
  count : vec_len l.clauses ≡ vec_len l.initial.clauses;
  listed : AreEndingsOf l.endings l.clauses.items;
  done : judged (shortened number_of) (left_of (take l.place l.clauses.items)) (left_of (drop l.place l.clauses.items)) ≡ judged (shortened number_of) [] (left_of l.initial.clauses.items);
}

abbrev pub invariant-loop-place-2 : goal.invariant-loop-place-2
invariant-loop-place-2 l = record {
  count : vec_len l.clauses ≡ vec_len l.initial.clauses;
  listed : AreEndingsOf l.endings l.clauses.items;
  done : judged (needed number_of) (left_of (take l.place l.clauses.items)) (left_of (drop l.place l.clauses.items)) ≡ judged (needed number_of) [] (left_of l.initial.clauses.items);
}
