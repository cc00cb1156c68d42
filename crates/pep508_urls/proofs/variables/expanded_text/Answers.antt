use Rattle.std.proofs.Common.{rules, sym, subst, lit<}
use Rattle.std.proofs.lemmas.List.Elements.{All-from_get_or}
use Rattle.std.proofs.lemmas.Option.{MatchOption-at_none, MatchOption-at_some}
use Rattle.std.proofs.lemmas.Str.Pattern.{split_parts}
use Rattle.url.proofs.InputLemmas.{IsNot}
use Rattle.pep508_urls.specs.Variables.{Expands, value_of}
use Rattle.pep508_urls.proofs.VariableLaws.{expands_itself, expands_reference, expands_dollar, grown_twice}
use Rattle.pep508_urls.proofs.variables.expanded_text.Goals as goal

pub loop-before-preserved-in-Some-braced_name : goal.loop-before-preserved-in-Some-braced_name
loop-before-preserved-in-Some-braced_name c =
    let parts = MatchOption-at_some _ _ _ c.in-Some.is (split_parts 36 c.loop-before.rest.now c.split_once.result c.split_once.ensures.cases (lit< tt)) in
    let lacks = All-from_get_or (IsNot 36) c.in-Some.before.now 0 parts.1 in
    record {
      utf8 = search rules;
      expands = λ tail e.
          subst (Expands (value_of c.args.surroundings.now) c.args.text.now)
          (grown_twice _ _ _ tail c.in_ok-push_str.ensures.bytes c.in_ok-push_value-in-Some-braced_name.ensures)
          (c.loop-before.invariant.expands _ (expands_reference c.in-Some.before.now lacks parts.0 c.in-Some-braced_name.ensures.found c.in-Some-braced_name.ensures.name e));
    }

pub loop-before-preserved : goal.loop-before-preserved
unfolding lib.Utf8.encode
loop-before-preserved c =
    let parts = MatchOption-at_some _ _ _ c.in-Some.is (split_parts 36 c.loop-before.rest.now c.split_once.result c.split_once.ensures.cases (lit< tt)) in
    let lacks = All-from_get_or (IsNot 36) c.in-Some.before.now 0 parts.1 in
    record {
      utf8 = search rules;
      expands = λ tail e.
          subst (Expands (value_of c.args.surroundings.now) c.args.text.now)
          (grown_twice _ _ _ tail c.in_ok-push_str.ensures.bytes c.in_ok-push-in-None.ensures.bytes)
          (c.loop-before.invariant.expands _ (expands_dollar c.in-Some.before.now lacks parts.0 c.in-None.ensures.none e));
    }

pub returns : goal.returns
returns c =
    let rest = c.loop-before.rest.now in
    let lacks = All-from_get_or (IsNot 36) rest 0 (MatchOption-at_none _ _ c.in_default.is (split_parts 36 rest c.split_once.result c.split_once.ensures.cases (lit< tt))) in
    subst (Expands (value_of c.args.surroundings.now) c.args.text.now)
    (sym c.in_ok-push_str-2.ensures.bytes)
    (c.loop-before.invariant.expands rest (expands_itself rest lacks))
