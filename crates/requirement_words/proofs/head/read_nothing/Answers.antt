use Rattle.std.proofs.Common.{refl, sym, ◌∙◌, subst}
use Rattle.std.proofs.lemmas.Bool.{true≢false}
use Rattle.requirement_words.specs.Archive.{IsArchive}
use Rattle.requirement_words.specs.Fault.{FindsInHead}
use Rattle.requirement_words.specs.declared.fault.FaultKind.TheVariants.{ArchiveWithoutName}
use Rattle.requirement_words.proofs.FaultLaws.{fault_at_run}
use Rattle.requirement_words.proofs.HeadLaws.{archive_there, not_asked, nothing_in, nothing_no_url, written_is}
use Rattle.requirement_words.proofs.head.read_nothing.Goals as goal

pub returns-then-is_archive-clause-refused : goal.returns-then-is_archive-clause-refused
returns-then-is_archive-clause-refused c = λ value.
    let is = c.is_archive.ensures.yes c.if-is_archive.true in (
      fault_at_run (FindsInHead value c.args.text.now) ArchiveWithoutName c.skip_space-start.ensures.suffix c.split_run.ensures.suffix.utf8 c.split_run.ensures.joined
          c.at.ensures.kind c.at.ensures.place c.at_run.ensures.piece c.at_run.ensures.left
          (archive_there value c.skip_space-start.ensures.rest c.split_run.ensures.joined c.split_run.ensures.bytes c.requires.behind.extras c.requires.bare is),
      not_asked _ _ c.requires.bare (subst IsArchive (written_is _ _ _ c.skip_space-start.ensures.rest c.split_run.ensures.bytes) is),
    )

pub returns-clause-found : goal.returns-clause-found
returns-clause-found c =
    nothing_in _ _ _ _ c.requires.bare refl refl
    (λ is. true≢false (sym (c.is_archive.ensures.no (subst IsArchive (sym (written_is _ _ _ c.skip_space-start.ensures.rest c.split_run.ensures.bytes)) is)) ∙ c.if-is_archive.false))

pub returns-clause-placed : goal.returns-clause-placed
returns-clause-placed c = λ piece e. absurd (nothing_no_url piece e)
