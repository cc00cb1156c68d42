use Rattle.std.proofs.Common.{ap, sym, ◌∙◌}
use Rattle.pep508_text.proofs.SuffixLaws.{suffix_then}
use Rattle.requirement_words.proofs.ExtrasLaws.{is_run, named, not_named, nothing_named, not_begun, refused_name, run_ends}
use Rattle.pep508_urls.specs.Variables.{value_of}
use Rattle.requirement_words.specs.Fault.{begins_name, FindsInHead}
use Rattle.requirement_words.specs.declared.fault.FaultKind.TheVariants.{NameEnd}
use Rattle.requirement_words.proofs.FaultLaws.{fault_at_last, fault_behind}
use Rattle.requirement_words.proofs.HeadLaws.{name_end_there, refused_with}
use Rattle.pep508_text.proofs.Splits.{front_is_utf8}
use Rattle.requirement_words.proofs.head.read_name.Goals as goal

pub blank_fault-requires : goal.blank_fault-requires
blank_fault-requires c = sym c.skip_space-start.ensures.rest ∙ c.in_default.ensures.characters

pub returns-in_default-clause-refused : goal.returns-in_default-clause-refused
returns-in_default-clause-refused c = (c.blank_fault.ensures _, nothing_named _ _ c.skip_space-start.ensures.rest c.in_default.ensures.characters)

pub returns-then-not-is_ascii_alphanumeric-clause-refused : goal.returns-then-not-is_ascii_alphanumeric-clause-refused
returns-then-not-is_ascii_alphanumeric-clause-refused c =
    refused_with _ _ _ (not_begun _ _ _ _ c.skip_space-start.ensures.rest c.in-Some.ensures.characters (sym c.is_ascii_alphanumeric.ensures.value ∙ c.if-not-is_ascii_alphanumeric.true)) c.name_refusal.ensures

pub returns-in-Ok-clause-found : goal.returns-in-Ok-clause-found
returns-in-Ok-clause-found c = named _ _ _ _ _ c.skip_space-start.ensures.rest c.split_run.ensures.bytes c.split_run.ensures.rest c.in-Ok.ensures.read

pub returns-in-Ok-clause-suffix : goal.returns-in-Ok-clause-suffix
returns-in-Ok-clause-suffix c = suffix_then c.skip_space-start.ensures.suffix c.split_run.ensures.suffix

pub at_last-requires : goal.at_last-requires
at_last-requires c =
    let run = is_run c.split_run.ensures.run c.split_run.ensures.rest in
    let end = run_ends _ _ run (front_is_utf8 _ _ _ c.split_run.ensures.joined c.skip_space-start.utf8 c.split_run.ensures.suffix.utf8)
    (ap begins_name c.in-Some.ensures.characters ∙ sym c.is_ascii_alphanumeric.ensures.value ∙ c.if-not-is_ascii_alphanumeric.false)
    (refused_name _ _ _ c.in-Err-Fault.field-0-is c.in-Err-Fault.ensures.refused) in
    (end.front, end.c, end.joined, end.ascii)

pub returns-in-Err-Fault-clause-refused : goal.returns-in-Err-Fault-clause-refused
returns-in-Err-Fault-clause-refused c =
    let none = refused_name _ _ _ c.in-Err-Fault.field-0-is c.in-Err-Fault.ensures.refused in
    let value = value_of c.args.surroundings.now in
    let begins = ap begins_name c.in-Some.ensures.characters ∙ sym c.is_ascii_alphanumeric.ensures.value ∙ c.if-not-is_ascii_alphanumeric.false in
    let run = is_run c.split_run.ensures.run c.split_run.ensures.rest in
    let end = run_ends _ _ run (front_is_utf8 _ _ _ c.split_run.ensures.joined c.skip_space-start.utf8 c.split_run.ensures.suffix.utf8) begins none in (
      fault_behind (FindsInHead value c.args.text.now) (FindsInHead value c.args.text.now) c.skip_space-start.ensures.suffix (λ k p b f. f)
          (fault_at_last (FindsInHead value c.args.text.now) NameEnd end.front end.c c.split_run.ensures.joined c.split_run.ensures.suffix end.joined end.ascii
          c.at.ensures.kind c.at.ensures.place c.at_last.ensures.piece c.at_last.ensures.left
          (name_end_there value c.skip_space-start.result.now c.skip_space-start.ensures.rest (sym c.split_run.ensures.run) c.split_run.ensures.rest begins end)),
      not_named _ _ _ c.skip_space-start.ensures.rest c.split_run.ensures.bytes none,
    )
