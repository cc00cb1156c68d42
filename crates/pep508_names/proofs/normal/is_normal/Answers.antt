use Rattle.std.proofs.Common.{◌≡◌, ◌∙◌, [], ap, drop}
use Rattle.std.proofs.lemmas.List.{drop_all}
use Rattle.pep508_names.proofs.NormalLaws.{ends_normal, normal}
use Rattle.pep508_names.proofs.normal.is_normal.Goals as goal

-- at the end of the text no word is awaited
pub returns : goal.returns
returns c = λ h.
    let done : drop c.loop-i.i c.args.text.now ≡ [] = drop_all c.loop-i.i c.args.text.now c.loop-i-test.false in
    normal c.args.text.now (c.loop-i.invariant ∙ ap (ends_normal c.loop-i.awaits_word) done ∙ h)
