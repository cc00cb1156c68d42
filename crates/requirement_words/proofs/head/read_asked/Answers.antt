use Rattle.std.proofs.Common.{sym, ◌∙◌}
use Rattle.pep508_text.proofs.SuffixLaws.{suffix_then}
use Rattle.std.specs.Str.{chars}
use Rattle.pep508_urls.specs.Variables.{value_of}
use Rattle.requirement_words.specs.Fault.{asked, FindsInAsked, FindsInHead}
use Rattle.requirement_words.proofs.FaultLaws.{refused_behind}
use Rattle.requirement_words.proofs.HeadLaws.{is_ended, is_bare, broken, refused_with, asked_in, not_in}
use Rattle.requirement_words.proofs.head.read_asked.Goals as goal

pub read_nothing-requires-clause-bare : goal.read_nothing-requires-clause-bare
read_nothing-requires-clause-bare c = is_ended _ c.in_default.ensures.characters

pub read_nothing-requires-then-found-eq59-clause-bare : goal.read_nothing-requires-then-found-eq59-clause-bare
read_nothing-requires-then-found-eq59-clause-bare c = is_bare _ _ _ c.in-Some.ensures.characters c.if-found-eq59.true

pub returns-then-not-may_follow_name-clause-refused : goal.returns-then-not-may_follow_name-clause-refused
returns-then-not-may_follow_name-clause-refused c =
    refused_with _ _ _ (broken _ _ _ _ c.in-Some.ensures.characters (sym c.may_follow_name.ensures ∙ c.if-not-may_follow_name.true)) c.asked_refusal.ensures

pub read_something-requires : goal.read_something-requires
read_something-requires c = (_, _, c.in-Some.ensures.characters, sym c.may_follow_name.ensures ∙ c.if-not-may_follow_name.false, c.if-found-eq59.false)

pub returns-in-Ok-clause-found : goal.returns-in-Ok-clause-found
returns-in-Ok-clause-found c = asked_in _ _ _ _ c.in-Ok.ensures.found c.in-Ok.ensures.some

pub returns-in-Ok-clause-suffix : goal.returns-in-Ok-clause-suffix
returns-in-Ok-clause-suffix c = suffix_then c.requires.inside c.in-Ok.ensures.suffix

pub returns-in-Ok-clause-placed : goal.returns-in-Ok-clause-placed
returns-in-Ok-clause-placed c = λ piece e. suffix_then c.requires.inside (c.in-Ok.ensures.placed piece e)

pub returns-in-Err-clause-refused : goal.returns-in-Err-clause-refused
returns-in-Err-clause-refused c =
    refused_behind (FindsInAsked (chars c.args.behind.now)) (FindsInHead (value_of c.args.surroundings.now) c.args.text.now) _ _ _ _ _ c.requires.inside (λ k p b f. asked c.requires.extras f)
    (not_in _ _) c.in-Err.ensures.refused
