use Rattle.std.proofs.Common.{◌+◌, get_or, not, length, sym, subst, arith, ◌∙◌}
use Rattle.project_files.specs.declared.includes.Link.{Link}
use Rattle.project_files.specs.Links.{AreBelow, flag_if}
use Rattle.project_files.proofs.EndLaws.{WaitsBelow, has_at, flag_read, waits_none, waits_more, waits_all}
use Rattle.project_files.proofs.endings.waiting.Goals as goal

abbrev first_link : Link
first_link = record { from = 0; to = 0 }

pub loop-link-init : goal.loop-link-init
loop-link-init c =
    let counted = sym c.in_ok-waits.waits.ok.0 ∙ c.in_ok-waits.ensures.count ∙ c.len.ensures ∙ c.args.ended.now.ok.0 in
    waits_none c.args.links.now c.args.ended.now.items c.in_ok-waits.waits.items counted c.in_ok-waits.ensures.unset

pub index-requires : goal.index-requires
index-requires c = (c.requires _ _ (has_at c.args.links.now c.loop-link.link-index first_link c.loop-link-test.true)).1

pub flag_if-requires : goal.flag_if-requires
flag_if-requires c =
    let below = (c.requires _ _ (has_at c.args.links.now c.loop-link.link-index first_link c.loop-link-test.true)).0 in
    omega (arith, below, c.loop-link.invariant.count, c.loop-link.waits.ok.0, c.args.ended.now.ok.0)

pub loop-link-preserved : goal.loop-link-preserved
loop-link-preserved c =
    let ls = c.args.links.now in
    let i = c.loop-link.link-index in
    let ended = c.args.ended.now.items in
    let waits = c.loop-link.waits.items in
    let l = get_or ls i first_link in
    let below : AreBelow ls (length ended) = subst (AreBelow ls) c.args.ended.now.ok.0 c.requires in
    let read = flag_read ended l.to c.index.result.now (below l.from l.to (has_at ls i first_link c.loop-link-test.true)).1 c.index.ensures in
    subst (WaitsBelow ls (i + 1) ended) (sym c.flag_if.ensures)
    (subst (λ b. WaitsBelow ls (i + 1) ended (flag_if (not b) waits l.from)) (sym read)
    (waits_more ls i first_link ended waits below c.loop-link-test.true c.loop-link.invariant))

pub returns : goal.returns
returns c = waits_all c.args.links.now c.loop-link.link-index c.args.ended.now.items c.loop-link.waits.items c.loop-link-test.false c.loop-link.invariant
