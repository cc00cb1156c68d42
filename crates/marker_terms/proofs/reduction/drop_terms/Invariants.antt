use Rattle.std.proofs.Common.{◌≡◌, ◌≤◌, [], vec_len}
use Rattle.marker_terms.specs.Numbered.{left_of, number_of}
use Rattle.marker_terms.specs.Reduction.{without_terms}
use Rattle.marker_terms.proofs.KeptLaws.{IsJudged}
use Rattle.marker_terms.proofs.reduction.drop_terms.Given as goal

abbrev pub invariant-loop-index : goal.invariant-loop-index
invariant-loop-index l = record {
  count : vec_len l.clause ≡ vec_len l.initial.clause;
  order : l.kept ≤ l.index;
  judged : IsJudged l.endings (left_of l.others) (without_terms number_of (left_of l.others) [] l.initial.clause.items) l.near.items l.clause.items l.kept l.index;
}
