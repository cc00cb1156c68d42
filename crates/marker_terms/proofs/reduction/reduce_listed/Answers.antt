use Rattle.std.proofs.Common.{◌≡◌, ◌<◌, length, ◌∙◌, arith}
use Rattle.marker_terms.specs.Numbered.{number_of}
use Rattle.marker_terms.specs.Reduction.{needed, shortened}
use Rattle.marker_terms.proofs.LeftLaws.{judged_more, same_count}
use Rattle.marker_terms.proofs.reduction.reduce_listed.Goals as goal

pub loop-place-preserved : goal.loop-place-preserved
loop-place-preserved c =
    let l : c.loop-place.place < length c.loop-place.clauses.items = omega (arith, c.loop-place.clauses.ok.0, c.loop-place.invariant.count) in
    let n : length c.shorten.new.clauses.items ≡ length c.loop-place.clauses.items = same_count (shortened number_of) c.loop-place.clauses.items c.shorten.new.clauses.items c.loop-place.place c.in_ok-shorten.ensures.judged in
    record {
      count = omega (arith, n, c.loop-place.clauses.ok.0, c.shorten.new.clauses.ok.0, c.loop-place.invariant.count);
      listed = c.in_ok-shorten.ensures.listed;
      done = judged_more (shortened number_of) c.loop-place.clauses.items c.shorten.new.clauses.items c.loop-place.place l c.in_ok-shorten.ensures.judged ∙ c.loop-place.invariant.done;
    }

pub loop-place-2-preserved : goal.loop-place-2-preserved
loop-place-2-preserved c =
    let l : c.loop-place-2.place < length c.loop-place-2.clauses.items = omega (arith, c.loop-place-2.clauses.ok.0, c.loop-place-2.invariant.count) in
    let n : length c.drop_spare.new.clauses.items ≡ length c.loop-place-2.clauses.items = same_count (needed number_of) c.loop-place-2.clauses.items c.drop_spare.new.clauses.items c.loop-place-2.place c.in_ok-drop_spare.ensures.judged in
    record {
      count = omega (arith, n, c.loop-place-2.clauses.ok.0, c.drop_spare.new.clauses.ok.0, c.loop-place-2.invariant.count);
      listed = c.in_ok-drop_spare.ensures.listed;
      done = judged_more (needed number_of) c.loop-place-2.clauses.items c.drop_spare.new.clauses.items c.loop-place-2.place l c.in_ok-drop_spare.ensures.judged ∙ c.loop-place-2.invariant.done;
    }
