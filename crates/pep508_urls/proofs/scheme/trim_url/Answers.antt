use Rattle.std.proofs.Common.{ℕ, List, ◌≡◌, ◌-◌, length, take, drop, ap, ◌∙◌, rules, tests}
use Rattle.std.specs.Prelude.{reverse}
use Rattle.std.specs.List.{prefix_len}
use Rattle.std.proofs.lemmas.Iterator.{YieldsList-from_slice}
use Rattle.std.proofs.lemmas.Iterator.Adapters.{YieldsList-from_rev_slice}
use Rattle.std.proofs.lemmas.Iterator.Consumers.{count_from_yields_List}
use Rattle.std.proofs.lemmas.Iterator.Search.{YieldsList-from_take_while}
use Rattle.std.proofs.lemmas.List.Folds.{length-prefix_len}
use Rattle.url.specs.Input.{trim_c0_control_and_space, is_c0_control_or_space}
use Rattle.pep508_urls.proofs.SchemeLaws.{control_is_small}
use Rattle.pep508_urls.proofs.Fronts.{boundary_behind}
use Rattle.pep508_urls.proofs.scheme.trim_url.Goals as goal

pub split_at-requires : goal.split_at-requires
split_at-requires c =
    let text : List ℕ = c.args.text.now in
    let start : c.count-front.result ≡ prefix_len is_c0_control_or_space text = count_from_yields_List c.take_while.result _ c.count-front.ensures.ran (YieldsList-from_take_while _ is_c0_control_or_space (YieldsList-from_slice text (cc)) c.take_while.ensures.closure c.take_while.ensures.done (λ x b q k. search (rules, tests))) ∙ length-prefix_len is_c0_control_or_space text in
    boundary_behind is_c0_control_or_space control_is_small text c.count-front.result c.utf8.text start

pub returns : goal.returns
unfolding trim_c0_control_and_space
returns c =
    let text : List ℕ = c.args.text.now in
    let rest : List ℕ = c.split_at.result.1.now in
    let start : c.count-front.result ≡ prefix_len is_c0_control_or_space text = count_from_yields_List c.take_while.result _ c.count-front.ensures.ran (YieldsList-from_take_while _ is_c0_control_or_space (YieldsList-from_slice text (cc)) c.take_while.ensures.closure c.take_while.ensures.done (λ x b q k. search (rules, tests))) ∙ length-prefix_len is_c0_control_or_space text in
    let trailing : c.count-back.result ≡ prefix_len is_c0_control_or_space (reverse rest) = count_from_yields_List c.take_while-2.result _ c.count-back.ensures.ran (YieldsList-from_take_while _ is_c0_control_or_space (YieldsList-from_rev_slice rest (cc)) c.take_while-2.ensures.closure c.take_while-2.ensures.done (λ x b q k. search (rules, tests))) ∙ length-prefix_len is_c0_control_or_space (reverse rest) in
    c.split_at-2.ensures.front
    ∙ ap (λ (n : ℕ). take (length rest - n) rest) trailing
    ∙ ap (λ (x : List ℕ). take (length x - prefix_len is_c0_control_or_space (reverse x)) x) (c.split_at.ensures.back ∙ ap (λ (n : ℕ). drop n text) start)
