use Rattle.std.proofs.Common.{ℕ, List, ◌≡◌, ◌∷◌, ◌++◌, length, take, drop, sym, ap, ◌∙◌, subst, lit<, arith, true, All}
use Rattle.std.specs.List.{prefix_len}
use Rattle.std.proofs.lemmas.Bool.Decides.{nat_tests}
use Rattle.std.proofs.lemmas.Option.{MatchOption-at_none, MatchOption-at_some}
use Rattle.std.proofs.lemmas.Str.Pattern.{strip_prefix_char}
use Rattle.pep508_urls.specs.Variables.{is_name_byte}
use Rattle.pep508_urls.proofs.VariableLaws.{name_cut, rest_cut, run_is_each}
use Rattle.pep508_urls.proofs.variables.braced_name.Goals as goal

pub returns-in_default-clause-none : goal.returns-in_default-clause-none
returns-in_default-clause-none c = λ name rest n e.
    MatchOption-at_none _ _ c.in_default.is (strip_prefix_char 123 c.args.text.now c.strip_prefix.result c.strip_prefix.ensures.cases (lit< tt)) (name ++ (125 ∷ rest)) e

pub returns-in_default-strip_prefix-clause-none : goal.returns-in_default-strip_prefix-clause-none
returns-in_default-strip_prefix-clause-none c = λ name rest n e.
    let inside = MatchOption-at_some _ _ _ c.in-Some.is (strip_prefix_char 123 c.args.text.now c.strip_prefix.result c.strip_prefix.ensures.cases (lit< tt)) in
    let same : c.in-Some.inside.now ≡ name ++ (125 ∷ rest) = cc in
    MatchOption-at_none _ _ c.in_default-strip_prefix.is (strip_prefix_char 125 c.split_name.result.1.now c.strip_prefix-2.result c.strip_prefix-2.ensures.cases (lit< tt)) rest
    (c.split_name.ensures.rest ∙ ap (λ (x : List ℕ). drop (prefix_len is_name_byte x) x) same ∙ rest_cut name rest n)

pub returns-then-is_empty-clause-none : goal.returns-then-is_empty-clause-none
returns-then-is_empty-clause-none c = λ name rest n e.
    let inside = MatchOption-at_some _ _ _ c.in-Some.is (strip_prefix_char 123 c.args.text.now c.strip_prefix.result c.strip_prefix.ensures.cases (lit< tt)) in
    let same : c.in-Some.inside.now ≡ name ++ (125 ∷ rest) = cc in
    let cut : c.split_name.result.0.now ≡ name = c.split_name.ensures.name ∙ ap (λ (x : List ℕ). take (prefix_len is_name_byte x) x) same ∙ name_cut name rest n in
    let size : length c.split_name.result.0.now ≡ length name = ap length cut in
    let some = n.some in
    grind (arith, nat_tests)

pub returns-clause-name : goal.returns-clause-name
returns-clause-name c = record { some = grind (arith, nat_tests); each = subst (All (λ b. is_name_byte b ≡ true)) (sym c.split_name.ensures.name) (run_is_each c.in-Some.inside.now) }
