use Rattle.std.proofs.Common.{subst, ap}
use Rattle.project_files.specs.declared.key.Section.TheVariants.{Group, Extra}
use Rattle.project_files.specs.Faults.{names_in, JudgesName}
use Rattle.project_files.proofs.FaultLaws.{if_ok, names_other, judges_named}
use Rattle.project_files.proofs.judging.judge.Goals as goal

pub returns-in-Group : goal.returns-in-Group
returns-in-Group c =
    if_ok c.judge_name.result _ _ (λ fault h es groups extras ended.
    judges_named es c.args.place c.args.entry.now Group fault c.in-Name.is (ap names_in c.in-Group.is)
    (subst (λ n. JudgesName es Group c.args.place n fault) c.name_of.ensures (h es Group groups)))
    c.judge_name.ensures

pub returns-in_default : goal.returns-in_default
returns-in_default c =
    if_ok c.judge_name-in_default.result _ _ (λ fault h es groups extras ended.
    judges_named es c.args.place c.args.entry.now Extra fault c.in-Name.is (names_other c.args.entry.now.key.section c.in_default.not-Group)
    (subst (λ n. JudgesName es Extra c.args.place n fault) c.name_of-in_default.ensures (h es Extra extras)))
    c.judge_name-in_default.ensures
