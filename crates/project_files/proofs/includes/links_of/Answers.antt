use Rattle.std.proofs.Common.{◌≡◌, ◌+◌, Some, slice_get, nat_cmp, sym, subst}
use Rattle.std.specs.BTreeMap.{get}
use Rattle.std.specs.Cmp.Lexicographic.{slice_cmp}
use Rattle.project_files.specs.Found.{entry_in, entries_in}
use Rattle.project_files.proofs.NameLaws.{entry_at, all_read}
use Rattle.project_files.proofs.LinkLaws.{Home, LinksBelow, home_more, links_more, links_all}
use Rattle.project_files.proofs.includes.links_of.Goals as goal

pub loop-place-preserved : goal.loop-place-preserved
loop-place-preserved c =
    let es = entries_in c.args.entries.now in
    let i = c.loop-place.place in
    let e = entry_in c.index-entries-place.result in
    let here : slice_get es i ≡ Some e = entry_at c.args.entries.now i c.index-entries-place.result c.loop-place-test.true c.index-entries-place.is in
    let home : Home es (i + 1) c.home_of-home.result = subst (Home es (i + 1)) (sym c.home_of-home.ensures) (home_more es i c.loop-place.home e here c.loop-place.invariant.home) in
    record {
      home = home;
      links = subst (LinksBelow es (i + 1)) (sym c.in_ok-add_link.ensures) (links_more es i c.loop-place.links.items e (get (slice_cmp nat_cmp) c.args.groups.now) c.home_of-home.result c.in_ok-target.target here c.requires home c.in_ok-target.ensures c.loop-place.invariant.links);
    }

pub returns : goal.returns
returns c = links_all (entries_in c.args.entries.now) c.loop-place.place c.loop-place.links.items (all_read c.args.entries.now c.loop-place.place c.loop-place-test.false c.loop-place.auto.place-end) c.loop-place.invariant.links
