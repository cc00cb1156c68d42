use Rattle.std.specs.Str.{chars}
use Rattle.pep508_text.proofs.SuffixLaws.{same_front, suffix_self, suffix_then}
use Rattle.requirement_words.specs.Fault.{FindsInAsked}
use Rattle.requirement_words.specs.declared.fault.FaultKind.TheVariants.{UnclosedParenthesis}
use Rattle.requirement_words.proofs.FaultLaws.{fault_before}
use Rattle.requirement_words.proofs.HeadLaws.{enclosed_body, enclosed_fault, last_fault, no_enclosed, not_closed, open_pieces, parenthesis_there}
use Rattle.requirement_words.proofs.head.read_enclosed.Goals as goal

pub returns-in-Some-clause-found : goal.returns-in-Some-clause-found
returns-in-Some-clause-found c = enclosed_body _ _ _ _ _ _ c.requires.characters c.skip_space.ensures.rest c.in-Ok.ensures.found c.in-Some.ensures.found

pub returns-in-Some-clause-suffix : goal.returns-in-Some-clause-suffix
returns-in-Some-clause-suffix c = suffix_then c.requires.suffix (suffix_then c.skip_space.ensures.suffix (suffix_then c.in-Ok.ensures.suffix c.in-Some.ensures.suffix))

pub returns-in-None-clause-refused : goal.returns-in-None-clause-refused
returns-in-None-clause-refused c = (
  fault_before (FindsInAsked (chars c.args.text.now)) UnclosedParenthesis (suffix_self _ c.utf8.text) c.requires.suffix.utf8 c.at.ensures.kind c.at.ensures.place c.before-opening.ensures.piece c.before-opening.ensures.left
      (parenthesis_there c.skip_space.result.now c.requires.characters c.skip_space.ensures.rest c.before-opening.ensures.piece (same_front _ _ _ _ c.before-opening.ensures.piece c.requires.bytes)
      (open_pieces _ _ c.in-Ok.ensures.found c.in-None.ensures.none)),
  not_closed _ _ _ _ _ c.requires.characters c.skip_space.ensures.rest c.in-Ok.ensures.found c.in-None.ensures.none,
)

pub returns-then-fault-clause-refused : goal.returns-then-fault-clause-refused
returns-then-fault-clause-refused c =
    let h = rw c.in-Err-Fault.field-0-is at c.in-Err-Fault.ensures.refused in (
      fault_before (FindsInAsked (chars c.args.text.now)) UnclosedParenthesis (suffix_self _ c.utf8.text) c.requires.suffix.utf8 c.at-then-fault.ensures.kind c.at-then-fault.ensures.place c.before-opening.ensures.piece c.before-opening.ensures.left
          (parenthesis_there c.skip_space.result.now c.requires.characters c.skip_space.ensures.rest c.before-opening.ensures.piece (same_front _ _ _ _ c.before-opening.ensures.piece c.requires.bytes)
          (last_fault h.0 c.if-fault.true)),
      no_enclosed _ _ _ c.requires.characters c.skip_space.ensures.rest h.1,
    )

pub returns-else-fault-clause-refused : goal.returns-else-fault-clause-refused
returns-else-fault-clause-refused c =
    let h = rw c.in-Err-Fault.field-0-is at c.in-Err-Fault.ensures.refused in (
      enclosed_fault _ (suffix_then c.requires.suffix c.skip_space.ensures.suffix) c.requires.characters c.skip_space.ensures.rest h.0 c.if-fault.false,
      no_enclosed _ _ _ c.requires.characters c.skip_space.ensures.rest h.1,
    )
