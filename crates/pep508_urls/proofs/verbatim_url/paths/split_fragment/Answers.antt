use Rattle.std.proofs.Common.{sym, ap, ◌∙◌, lit<}
use Rattle.std.proofs.lemmas.List.Elements.{All-from_get_or}
use Rattle.std.proofs.lemmas.Option.{MatchOption-at_none, MatchOption-at_some}
use Rattle.std.proofs.lemmas.Str.Pattern.{split_parts}
use Rattle.url.specs.Input.{split_once}
use Rattle.url.proofs.InputLemmas.{IsNot, split_once_at, split_once_none}
use Rattle.pep508_urls.proofs.verbatim_url.paths.split_fragment.Goals as goal

pub returns-in-Some : goal.returns-in-Some
returns-in-Some c =
    let found = MatchOption-at_some _ _ _ c.in-Some.is (split_parts 35 c.args.text.now c.split_once.result c.split_once.ensures.cases (lit< tt)) in
    sym (ap (split_once 35) found.0 ∙ split_once_at 35 c.in-Some.before.now c.in-Some.fragment.now (All-from_get_or (IsNot 35) c.in-Some.before.now 0 found.1))

pub returns-in-None : goal.returns-in-None
returns-in-None c =
    let none = MatchOption-at_none _ _ c.in-None.is (split_parts 35 c.args.text.now c.split_once.result c.split_once.ensures.cases (lit< tt)) in
    sym (split_once_none 35 c.args.text.now (All-from_get_or (IsNot 35) c.args.text.now 0 none))
