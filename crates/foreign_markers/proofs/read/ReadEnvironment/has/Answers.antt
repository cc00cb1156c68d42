use Rattle.foreign_markers.proofs.ReadLaws.{given_again}
use Rattle.foreign_markers.proofs.read.ReadEnvironment.has.Goals as goal

pub returns-then-has_texts : goal.returns-then-has_texts
returns-then-has_texts c = λ yes.
    given_again c.args.values.now c.args.self.now.environment (c.has_texts.ensures c.if-has_texts.true) (c.has_versions.ensures yes) c.args.self.now.said
