use Rattle.std.proofs.Common.{rules}
use Rattle.requirement_lines.proofs.PlaceLaws.{end_then}
use Rattle.metadata_files.proofs.NameLaws.{in_name_more, name_ended, follows_ended}
use Rattle.metadata_files.proofs.headers.split_name.Goals as goal

pub returns-then-c-eq58 : goal.returns-then-c-eq58
returns-then-c-eq58 c =
    let i = c.loop-c.invariant in
    (name_ended _ _ i.name c.in-Some.ensures.characters c.if-c-eq58.true c.front_of.ensures, follows_ended _ i.name c.in-Some.ensures.characters c.if-c-eq58.true)

pub loop-c-preserved : goal.loop-c-preserved
loop-c-preserved c =
    let i = c.loop-c.invariant in
    record {
      end = end_then i.end c.in-Some.ensures.end;
      name = in_name_more _ i.name c.in-Some.ensures.characters c.if-c-eq58.false (search rules);
    }
