use Rattle.std.proofs.Common.{refl, ◌∙◌, codes}
use Rattle.marker_walks.specs.Keys.{key_name}
use Rattle.marker_witnesses.specs.Text.{comparison, extra_comparisons, key_comparisons, value_of}
use Rattle.marker_witnesses.proofs.TextLaws.{all_of, all_three, more_of, same_comparison}
use Rattle.marker_witnesses.proofs.example.Example.marker_text.Goals as goal

pub loop-key-preserved : goal.loop-key-preserved
loop-key-preserved c =
    more_of (λ key. comparison (key_name key) (codes "==") (value_of c.args.self.now key)) c.args.self.now.keys.items c.deref-key-items.result.now c.loop-key.key-index _ _ _ _ _ c.deref-key-items.ensures.value c.loop-key-test.true c.loop-key.invariant
    c.in_ok-add_comparison.ensures (same_comparison c.name.result.now _ (codes "==") c.value.result.now _ c.name.ensures c.value.ensures)

pub loop-extra-preserved : goal.loop-extra-preserved
loop-extra-preserved c =
    more_of (λ name. comparison (codes "extra") (codes "==") name) c.args.self.now.extras.items c.deref-extra-items.result.now c.loop-extra.extra-index c.extra-item.result _ _ _ _ c.deref-extra-items.ensures.value c.loop-extra-test.true c.loop-extra.invariant
    c.in_ok-add_comparison-2.ensures (same_comparison (codes "extra") (codes "extra") (codes "==") _ _ refl (c.as_str.ensures.text ∙ c.extra-item.is))

pub loop-name-preserved : goal.loop-name-preserved
loop-name-preserved c =
    more_of (λ name. comparison (codes "extra") (codes "!=") name) c.args.self.now.without.items c.deref-name-items.result.now c.loop-name.name-index c.name-item.result _ _ _ _ c.deref-name-items.ensures.value c.loop-name-test.true c.loop-name.invariant
    c.in_ok-add_comparison-3.ensures (same_comparison (codes "extra") (codes "extra") (codes "!=") _ _ refl (c.as_str-in-loop-name.ensures.text ∙ c.name-item.is))

pub returns : goal.returns
returns c =
    all_three (key_comparisons c.args.self.now) (extra_comparisons (codes "==") c.args.self.now.extras.items) (extra_comparisons (codes "!=") c.args.self.now.without.items) _
    (all_of (λ name. comparison (codes "extra") (codes "!=") name) c.args.self.now.without.items c.deref-name-items.result.now c.loop-name.name-index _ _ c.deref-name-items.ensures.value c.loop-name-test.false c.loop-name.invariant)
