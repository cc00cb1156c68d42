use Rattle.std.proofs.Common.{[]}
use Rattle.marker_view.proofs.WalkLaws.{clone_more, term_more}
use Rattle.marker_view.proofs.walk.clones.Goals as goal

pub loop-term-preserved : goal.loop-term-preserved
loop-term-preserved c = record {
  means = term_more c.loop-term.all.items c.push_large.new.list.items [] c.args.path.now c.loop-term.term-index c.term-item.result c.in_ok-clone.field-0 c.loop-term-test.true c.term-item.is c.in_ok-clone.ensures.cases c.in_ok-push_large.ensures.items c.loop-term.invariant.means;
  printable = λ p. clone_more c.loop-term.all.items c.push_large.new.list.items c.args.path.now c.loop-term.term-index c.term-item.result c.in_ok-clone.field-0 c.loop-term-test.true c.term-item.is c.in_ok-clone.ensures.cases c.in_ok-push_large.ensures.items p (c.loop-term.invariant.printable p);
}
