use Rattle.marker_answers.proofs.facts.add_values.Goals as goal

pub loop-variable-preserved : goal.loop-variable-preserved
loop-variable-preserved c = λ extras a. c.in_ok-add_text.ensures extras (c.loop-variable.invariant extras a)

pub loop-variable-2-preserved : goal.loop-variable-2-preserved
loop-variable-2-preserved c = λ extras a. c.in_ok-add_version.ensures extras (c.loop-variable-2.invariant extras a)

pub returns : goal.returns
returns c = c.loop-variable-2.invariant
