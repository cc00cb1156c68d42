use Rattle.std.proofs.Common.{ℕ, sym, subst, lit<, length, ◌<◌}
use Rattle.std.proofs.lemmas.Option.{MatchOption-at_none, MatchOption-at_some}
use Rattle.std.proofs.lemmas.Str.{IsCharBoundary-before_ascii, IsCharBoundary-after_ascii}
use Rattle.std.proofs.lemmas.Str.Pattern.{rfind_char}
use Rattle.requirement_words.proofs.NamelessLaws.{extension_at, extension_dot}
use Rattle.requirement_words.proofs.nameless.split_extension.Goals as goal

pub returns-in_default-clause-none : goal.returns-in_default-clause-none
returns-in_default-clause-none c = λ before extension h.
    let none = MatchOption-at_none _ _ c.in_default.is (rfind_char 46 c.args.name.now c.rfind.result c.rfind.ensures.cases (lit< tt)) in
    let dot = extension_dot h in
    none _ dot.0 dot.1

pub returns-then-dot-eq0-clause-none : goal.returns-then-dot-eq0-clause-none
returns-then-dot-eq0-clause-none c = λ before extension h.
    let last = MatchOption-at_some _ _ _ c.in-Some.is (rfind_char 46 c.args.name.now c.rfind.result c.rfind.ensures.cases (lit< tt)) in
    let dot = extension_dot h in
    last.2 (length before) (subst (λ (n : ℕ). n < length before) (sym c.if-dot-eq0.true) dot.2) dot.0 dot.1

pub split_at-requires : goal.split_at-requires
split_at-requires c =
    let last = MatchOption-at_some _ _ _ c.in-Some.is (rfind_char 46 c.args.name.now c.rfind.result c.rfind.ensures.cases (lit< tt)) in
    IsCharBoundary-before_ascii c.args.name.now c.in-Some.dot last.0 (subst (λ (b : ℕ). b < 128) (sym last.1) (lit< tt))

pub split_at-requires-2 : goal.split_at-requires-2
split_at-requires-2 c =
    let last = MatchOption-at_some _ _ _ c.in-Some.is (rfind_char 46 c.args.name.now c.rfind.result c.rfind.ensures.cases (lit< tt)) in
    IsCharBoundary-after_ascii c.args.name.now c.in-Some.dot c.utf8.name last.0 (subst (λ (b : ℕ). b < 128) (sym last.1) (lit< tt))

pub returns-clause-found : goal.returns-clause-found
returns-clause-found c =
    let last = MatchOption-at_some _ _ _ c.in-Some.is (rfind_char 46 c.args.name.now c.rfind.result c.rfind.ensures.cases (lit< tt)) in
    rw (c.split_at.ensures.front, c.split_at-2.ensures.back) (extension_at c.args.name.now c.in-Some.dot last.0 last.1 last.2 c.if-dot-eq0.false)
