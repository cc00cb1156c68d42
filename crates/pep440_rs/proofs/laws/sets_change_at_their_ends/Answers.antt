use Rattle.pep440_rs.proofs.Ends.{answers_alike, ends_are_releases, python_answers_alike, python_ends_are_releases}
use Rattle.pep440_rs.proofs.laws.sets_change_at_their_ends.Goals as goal

pub returns : goal.returns
returns c = record {
  release = λ o r p q. answers_alike p q o r;
  python_version = λ o r p q. python_answers_alike p q o r;
  ends = λ o r. (ends_are_releases o r, python_ends_are_releases o r);
}
