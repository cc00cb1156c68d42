use Rattle.std.proofs.Common.{◌≡◌, ◌+◌, ◌/◌, suc, length, arith}
use mathlib.Core.Path.{ap, refl, ◌∙◌}
use Rattle.node_hasher.specs.Hash.{mixed, mixed_words}
use Rattle.node_hasher.proofs.WordLaws.{part_at_end, whole_words}
use Rattle.node_hasher.proofs.NodeHasherHasher.write.Goals as goal

pub loop-i-init : goal.loop-i-init
unfolding mixed_words
loop-i-init c = refl

pub loop-i-preserved : goal.loop-i-preserved
unfolding mixed_words
loop-i-preserved c =
    let next : suc c.loop-i.i ≡ c.loop-i.i + 1 = omega arith in
    c.mix.ensures ∙ (λ j. mixed (c.loop-i.invariant j) (c.word_at.ensures j)) ∙ ap (mixed_words c.args.self.now c.args.bytes.now) next

pub returns-then-left-gt0 : goal.returns-then-left-gt0
returns-then-left-gt0 c =
    let count : c.loop-i.i ≡ length c.args.bytes.now / 8 = omega arith in
    part_at_end c.args.self.now c.loop-i.self c.mix_part.new.self c.args.bytes.now (c.loop-i.invariant ∙ ap (mixed_words c.args.self.now c.args.bytes.now) count)
    _ c.word_at-then-left-gt0.ensures c.mix_part.ensures c.if-left-gt0.true

pub returns-else-left-gt0 : goal.returns-else-left-gt0
returns-else-left-gt0 c =
    let count : c.loop-i.i ≡ length c.args.bytes.now / 8 = omega arith in
    whole_words c.args.self.now c.loop-i.self c.loop-i.self c.args.bytes.now (c.loop-i.invariant ∙ ap (mixed_words c.args.self.now c.args.bytes.now) count) c.if-left-gt0.false
