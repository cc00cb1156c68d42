use Rattle.std.proofs.Common.{rules, subst, sym}
use Rattle.pep508_urls.specs.Fault.{IsWholePathFault}
use Rattle.pep508_urls.proofs.FileUrlLaws.{whole_path_has_a_url}
use Rattle.pep508_urls.proofs.verbatim_url.paths.from_whole_path.Goals as goal

pub returns-in-Err-clause-fault : goal.returns-in-Err-clause-fault
returns-in-Err-clause-fault c =
    let made = c.in_ok-fault-in-Err.ensures in
    subst (IsWholePathFault c.args.path.now) (sym made.2.1) (made.1, whole_path_has_a_url c.args.path.now _ c.in_ok-normal.ensures.value)

pub returns : goal.returns
returns c = record {
  value = tt;
  given = tt;
  fault = (search rules, whole_path_has_a_url c.args.path.now _ c.in_ok-normal.ensures.value);
  no_end = search rules;
}
