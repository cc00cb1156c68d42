use Rattle.std.proofs.Common.{sym, subst}
use Rattle.pep508_urls.specs.Variables.{Expands, value_of}
use Rattle.requirement_words.proofs.NamelessLaws.{comes_to}
use Rattle.requirement_words.proofs.nameless.is_nameless.Goals as goal

pub returns-clause-yes : goal.returns-clause-yes
returns-clause-yes c = λ t. record {
  expanded = c.as_str.result.now;
  rest = c.without_extras.result.now;
  expands = subst (Expands (value_of c.args.surroundings.now) c.args.run.now) (sym c.as_str.ensures.value) c.in_ok-expanded.ensures.value;
  without_extras = c.without_extras.ensures;
  is_one = c.is_path_or_url.ensures.yes t;
}

pub returns-clause-no : goal.returns-clause-no
returns-clause-no c = λ n.
    c.is_path_or_url.ensures.no (comes_to
    (subst (Expands (value_of c.args.surroundings.now) c.args.run.now) (sym c.as_str.ensures.value) c.in_ok-expanded.ensures.value)
    c.without_extras.ensures n)
