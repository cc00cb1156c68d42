use Rattle.std.proofs.Common.{sym, ◌∙◌, lit<}
use Rattle.std.proofs.lemmas.Bool.{true≢false}
use Rattle.std.proofs.lemmas.List.Elements.{All-from_get_or}
use Rattle.std.proofs.lemmas.Str.Pattern.{contains_char}
use Rattle.url.proofs.InputLemmas.{IsNot}
use Rattle.pep508_urls.proofs.VariableLaws.{expands_itself}
use Rattle.pep508_urls.proofs.variables.expand_env_vars.Goals as goal

pub returns-then-not-contains-clause-value : goal.returns-then-not-contains-clause-value
returns-then-not-contains-clause-value c =
    let found = (contains_char 36 c.args.text.now c.contains.result c.contains.ensures.cases (lit< tt)).1 in
    expands_itself c.args.text.now (All-from_get_or (IsNot 36) c.args.text.now 0 (λ i within e. true≢false (sym (found i within e) ∙ c.if-not-contains.true)))
