use Rattle.std.proofs.Common.{◌∙◌}
use Rattle.marker_conjunctions.proofs.StepLaws.{looked_up, found_settled, missing_open}
use Rattle.marker_conjunctions.proofs.conjunctions.Conjunctions.look_up.Goals as goal

pub returns-clause-and : goal.returns-clause-and
returns-clause-and c = looked_up c.args.self.now.memo.entries c.args.self.now.expansions c.args.a c.args.b c.copied.result (c.copied.ensures ∙ c.get.ensures.value)

pub returns-clause-settled : goal.returns-clause-settled
returns-clause-settled c = found_settled c.args.self.now.memo.entries c.args.a c.args.b c.copied.result (c.copied.ensures ∙ c.get.ensures.value)

pub returns-clause-unsettled : goal.returns-clause-unsettled
returns-clause-unsettled c = missing_open c.args.self.now.memo.entries c.args.a c.args.b c.copied.result (c.copied.ensures ∙ c.get.ensures.value) c.in_default.ensures.other c.in_default.ensures.nodes
