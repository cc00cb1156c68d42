use Rattle.std.proofs.Common.{List, ℕ, refl, sym, ap, ◌∙◌, subst}
use Rattle.std.proofs.lemmas.Bool.{true≢false}
use Rattle.pep508_urls.specs.Meaning.{is_path, file, known, other}
use Rattle.pep508_urls.specs.Path.{url_path}
use Rattle.pep508_urls.specs.Scheme.{scheme_text, SplitsScheme}
use Rattle.pep508_urls.proofs.SchemeLaws.{scheme_same}
use Rattle.pep508_urls.proofs.meaning.Target.of.Goals as goal

pub returns-in_default : goal.returns-in_default
returns-in_default c = other (λ scheme rest s. c.in_default.ensures.none (scheme_text scheme) rest s) refl

pub returns-in_ok-normalize_url_path-in-Some-parse :
    goal.returns-in_ok-normalize_url_path-in-Some-parse
returns-in_ok-normalize_url_path-in-Some-parse c =
    let is_file = c.if-is_file.ensures.0 refl in
    let written = sym c.in-Some-parse.ensures.found ∙ ap scheme_text is_file in
    file (subst (λ (s : List ℕ). SplitsScheme c.args.text.now s c.in-Some.rest.now) written c.in-Some.ensures.found)
    (ap is_path (c.in_ok-normalize_url_path-in-Some-parse.ensures ∙ ap url_path c.strip_host.ensures))

pub returns-in-Some-2 : goal.returns-in-Some-2
returns-in-Some-2 c =
    let written = sym c.in-Some-parse.ensures.found in
    known {scheme = c.in-Some-parse.scheme} (λ e. true≢false (sym (c.if-is_file.ensures.1 e)))
    (subst (λ (s : List ℕ). SplitsScheme c.args.text.now s c.in-Some.rest.now) written c.in-Some.ensures.found) refl

pub returns-in-None : goal.returns-in-None
returns-in-None c =
    other (λ scheme rest s. c.in-None.ensures.none scheme (scheme_same s c.in-Some.ensures.found).0) refl
