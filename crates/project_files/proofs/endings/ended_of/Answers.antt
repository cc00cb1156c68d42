use Rattle.std.proofs.Common.{sym, subst, ◌∙◌, arith, length}
use Rattle.project_files.specs.Links.{AreBelow, Settled}
use Rattle.project_files.proofs.EndLaws.{ended_none, ended_more, ended_all}
use Rattle.project_files.proofs.endings.ended_of.Goals as goal

pub loop-ended-init : goal.loop-ended-init
loop-ended-init c = ended_none c.args.links.now c.args.count c.in_ok-ended.ended.items (sym c.in_ok-ended.ended.ok.0 ∙ c.in_ok-ended.ensures.count) c.in_ok-ended.ensures.unset

pub waiting-requires : goal.waiting-requires
waiting-requires c = subst (AreBelow c.args.links.now) (sym (c.loop-ended.ended.ok.0 ∙ c.loop-ended.invariant.counted)) c.requires

pub settle-requires : goal.settle-requires
settle-requires c = omega (arith, c.in_ok-waits.ensures.count, c.in_ok-waits.waits.ok.0, c.loop-ended.ended.ok.0)

pub loop-ended-preserved : goal.loop-ended-preserved
loop-ended-preserved c =
    let old = c.loop-ended.ended.items in
    let settled = subst (λ n. Settled old c.settle.new.ended.items c.in_ok-waits.waits.items n c.settle.result) c.loop-ended.ended.ok.0 c.settle.ensures in
    ended_more c.args.links.now c.args.count old c.settle.new.ended.items c.in_ok-waits.waits.items c.settle.result c.in_ok-waits.ensures settled c.loop-ended.invariant

pub loop-ended-smaller : goal.loop-ended-smaller
loop-ended-smaller c = c.settle.ensures.fewer c.if-not-settle.false

pub returns-then-not-settle : goal.returns-then-not-settle
returns-then-not-settle c =
    let old = c.loop-ended.ended.items in
    let counted = subst (λ n. Settled old c.settle.new.ended.items c.in_ok-waits.waits.items n c.settle.result) c.loop-ended.ended.ok.0 c.settle.ensures in
    let settled = subst (λ b. Settled old c.settle.new.ended.items c.in_ok-waits.waits.items (length old) b) c.if-not-settle.true counted in
    ended_all c.args.links.now c.args.count old c.settle.new.ended.items c.in_ok-waits.waits.items c.requires c.in_ok-waits.ensures settled c.loop-ended.invariant
