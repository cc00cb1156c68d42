use Rattle.std.proofs.Common.{◌≡◌, rules, inl, inr, ⊎_elim}
use Rattle.marker_words.proofs.ValueLaws.{quote_at, at_quote}
use Rattle.marker_words.proofs.lexical.is_quote.Goals as goal

pub returns-then-c-eq39 : goal.returns-then-c-eq39
returns-then-c-eq39 c = (λ _. quote_at _ (inl c.if-c-eq39.true), λ _. search rules)

pub returns-else-c-eq39 : goal.returns-else-c-eq39
returns-else-c-eq39 c = (λ t. let e : c.args.c ≡ 34 = search rules in quote_at _ (inr e), λ q. ⊎_elim (λ s. absurd (c.if-c-eq39.false s)) (λ d. search rules) (at_quote q))
