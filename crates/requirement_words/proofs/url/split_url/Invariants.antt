use Rattle.std.proofs.Common.{length}
use Rattle.requirement_words.proofs.UrlLaws.{Going}
use Rattle.requirement_words.proofs.url.split_url.Given as goal

abbrev pub invariant-loop-c : goal.invariant-loop-c
invariant-loop-c l = Going l.place l.text l.rest l.brackets

abbrev pub decreases-loop-c : goal.decreases-loop-c
decreases-loop-c l = length l.rest
