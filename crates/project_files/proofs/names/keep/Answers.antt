use Rattle.std.proofs.Common.{◌≡◌, false, arith, nat_cmp}
use Rattle.std.proofs.lemmas.Grind.{common_steps}
use Rattle.std.specs.Prelude.{is_some}
use Rattle.std.specs.BTreeMap.{get}
use Rattle.std.specs.Cmp.Lexicographic.{slice_cmp}
use Rattle.project_files.proofs.NameLaws.{kept_new}
use Rattle.project_files.proofs.names.keep.Goals as goal

pub returns-in_ok-insert : goal.returns-in_ok-insert
returns-in_ok-insert c =
    let absent : is_some (get (slice_cmp nat_cmp) c.args.firsts.now c.args.name) ≡ false = grind (arith, common_steps) in
    kept_new (get (slice_cmp nat_cmp) c.args.firsts.now) (get (slice_cmp nat_cmp) c.insert.new.self) c.args.name c.args.place absent c.in_ok-insert.ensures.updates.0
