use Rattle.pep508_text.proofs.SuffixLaws.{suffix_nil, suffix_self}
use Rattle.std.proofs.Common.{◌∙◌, append-nil, sym}
use Rattle.requirement_words.specs.Fault.{FindsInHead}
use Rattle.requirement_words.specs.declared.fault.FaultKind.TheVariants.{Blank}
use Rattle.requirement_words.proofs.FaultLaws.{fault_at_first, fault_before}
use Rattle.requirement_words.proofs.HeadLaws.{blank_there, blank_at_end}
use Rattle.requirement_words.proofs.head.blank_fault.Goals as goal

pub returns-in-Some : goal.returns-in-Some
returns-in-Some c = λ value.
    fault_at_first (FindsInHead value c.args.text.now) Blank c.in-Some.field-0-0 (suffix_self _ c.utf8.text) c.in-Some.ensures.suffix c.in-Some.ensures.bytes
    c.at.ensures.kind c.at.ensures.place c.before-in-Some.ensures.piece c.before-in-Some.ensures.left
    (λ e. blank_there value c.in-Some.field-0-0 c.requires c.before-in-Some.ensures.piece e)

pub returns-in-None : goal.returns-in-None
returns-in-None c = λ value.
    fault_before (FindsInHead value c.args.text.now) Blank (suffix_nil _) (suffix_nil c.args.text.now).utf8
    c.at-in-None.ensures.kind c.at-in-None.ensures.place (sym (append-nil c.at_end.result.piece.now ∙ c.at_end.ensures.piece)) c.at_end.ensures.left
    (blank_at_end value c.in-None.ensures.bytes c.requires c.at_end.ensures.piece)
