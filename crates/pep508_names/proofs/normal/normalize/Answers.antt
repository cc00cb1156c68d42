use Rattle.std.proofs.Common.{◌≡◌, ◌∙◌, ◌++◌, [], ap, drop, false, sym, take, arith}
use Rattle.std.proofs.lemmas.List.{drop_all}
use Rattle.pep508_names.proofs.NameLaws.{append-nil, squeeze, squeeze-name}
use Rattle.pep508_names.proofs.normal.normalize.Goals as goal

-- at the end of the text all of it is written
pub returns-clause-normal : goal.returns-clause-normal
returns-clause-normal c n h =
    let done : drop c.loop-i.i c.loop-i.name ≡ [] = drop_all c.loop-i.i c.loop-i.name (omega arith) in
    sym (append-nil (take c.loop-i.len c.loop-i.name))
    ∙ sym (ap (λ rest. take c.loop-i.len c.loop-i.name ++ squeeze c.loop-i.follows_separator rest) done)
    ∙ sym c.loop-i.invariant.written
    ∙ squeeze-name false c.args.name.now n h
