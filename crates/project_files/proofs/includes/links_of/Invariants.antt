use Rattle.project_files.specs.Found.{entries_in}
use Rattle.project_files.proofs.LinkLaws.{Home, LinksBelow}
use Rattle.project_files.proofs.includes.links_of.Given as goal

abbrev pub invariant-loop-place : goal.invariant-loop-place
invariant-loop-place l = record {
  home : Home (entries_in l.entries) l.place l.home;
  links : LinksBelow (entries_in l.entries) l.place l.links.items;
}
