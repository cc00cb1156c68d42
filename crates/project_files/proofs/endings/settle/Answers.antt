use Rattle.std.proofs.Common.{◌<◌, length, not, refl, arith}
use Rattle.std.specs.Prelude.{◌&&◌}
use Rattle.project_files.specs.Links.{flag}
use Rattle.project_files.proofs.EndLaws.{flag_read, settled_none, settled_more}
use Rattle.project_files.proofs.endings.settle.Goals as goal

pub loop-place-init : goal.loop-place-init
loop-place-init c = settled_none c.args.ended.now.items c.args.waits.now.items

pub loop-place-preserved : goal.loop-place-preserved
loop-place-preserved c =
    let old = c.args.ended.now.items in
    let new = c.loop-place.ended.items in
    let waits = c.args.waits.now.items in
    let i = c.loop-place.place in
    let within : i < length old = omega (arith, c.loop-place-test.true, c.len-place-end.ensures, c.args.ended.now.ok.0) in
    let more = settled_more old new waits i c.loop-place.changed (not (flag new i) && not (flag waits i)) within refl c.loop-place.invariant in
    let inside : i < length waits = omega (arith, within, c.requires, c.args.waits.now.ok.0, c.args.ended.now.ok.0) in
    let read = flag_read waits i c.index.result.now inside c.index.ensures in
    rw (c.settle_at-changed.ensures.ended, c.settle_at-changed.ensures.changed, read) more
