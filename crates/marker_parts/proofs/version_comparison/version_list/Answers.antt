use Rattle.marker_parts.proofs.VersionListLaws.{read_nothing, read_more, read_all, no_list}
use Rattle.marker_parts.proofs.version_comparison.version_list.Goals as goal

pub entries-init : goal.entries-init
entries-init c = record { utf8 = c.utf8.text; read = rw c.new-versions.ensures.items (read_nothing _) }

pub next_entry-requires-text-text : goal.next_entry-requires-text-text
next_entry-requires-text-text c κs = c.entries.invariant.utf8

pub returns-in_default-2-clause-none : goal.returns-in_default-2-clause-none
returns-in_default-2-clause-none c = no_list c.entries.invariant.read c.in-Some.ensures.found (rw c.in_default-2.is at c.in_ok-version.ensures.none)

pub entries-preserved : goal.entries-preserved
entries-preserved c = record {
  utf8 = c.in-Some.ensures.suffix.utf8;
  read = rw c.in_ok-push.ensures.items (read_more c.entries.invariant.read c.in-Some.ensures.found (rw c.in-Some-2.is at c.in_ok-version.ensures.found));
}

pub returns-clause-found : goal.returns-clause-found
returns-clause-found c = read_all c.entries.invariant.read c.in_default.ensures.none
