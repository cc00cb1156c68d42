use Rattle.std.proofs.Common.{◌≡◌, rules}
use Rattle.std.specs.Prelude.{◌||◌}
use Rattle.marker_nodes.proofs.SideLaws.{version_clones}
use Rattle.marker_simplifications.proofs.SetLaws.{texts_joined}
use Rattle.marker_simplifications.proofs.value_set.ValueSet.union.Goals as goal

pub union-requires : goal.union-requires
union-requires c = record { clones = version_clones }

pub returns-in_ok-range-in-Texts-Texts : goal.returns-in_ok-range-in-Texts-Texts
returns-in_ok-range-in-Texts-Texts c = λ v.
    let same : c.in-Texts-Texts.key ≡ c.in-Texts-Texts.other = search rules in
    rw (c.in-Texts-Texts.is-0, c.in-Texts-Texts.is-1)
    (texts_joined c.in-Texts-Texts.left c.in-Texts-Texts.right c.in_ok-range-in-Texts-Texts.range (λ x y. x || y) c.in_ok-range-in-Texts-Texts.ensures.set c.in-Texts-Texts.key c.in-Texts-Texts.other same v)
