use Rattle.std.proofs.Common.{sym, ◌∙◌}
use Rattle.std.proofs.lemmas.Bool.{true≢false}
use Rattle.pep508_urls.specs.Variables.{value_of}
use Rattle.requirement_words.specs.Fault.{FindsInHead}
use Rattle.requirement_words.specs.declared.fault.FaultKind.TheVariants.{NoName, PathWithoutName}
use Rattle.requirement_words.proofs.FaultLaws.{fault_at_first, fault_at_run}
use Rattle.requirement_words.proofs.HeadLaws.{path_there, no_name_there}
use Rattle.requirement_words.proofs.head.name_refusal.Goals as goal

pub returns-then-nameless : goal.returns-then-nameless
returns-then-nameless c =
    let value = value_of c.args.surroundings.now in (
      fault_at_run (FindsInHead value c.args.text.now) PathWithoutName c.requires.suffix c.split_run.ensures.suffix.utf8 c.split_run.ensures.joined
          c.at.ensures.kind c.at.ensures.place c.at_run.ensures.piece c.at_run.ensures.left
          (path_there value _ _ c.requires.start c.split_run.ensures.joined c.split_run.ensures.bytes c.requires.first.characters c.requires.no_name (c.in-Ok.ensures.yes c.if-nameless.true)),
      tt,
    )

pub returns : goal.returns
returns c =
    let value = value_of c.args.surroundings.now in (
      fault_at_first (FindsInHead value c.args.text.now) NoName c.args.found c.requires.suffix c.requires.first.suffix c.requires.first.bytes
          c.at-2.ensures.kind c.at-2.ensures.place c.before-2.ensures.piece c.before-2.ensures.left
          (no_name_there value c.args.found c.requires.start c.split_run.ensures.bytes c.before-2.ensures.piece c.requires.no_name (λ n. true≢false (sym (c.in-Ok.ensures.no n) ∙ c.if-nameless.false))),
      tt,
    )
