use Rattle.std.proofs.Common.{sym, ◌∙◌, lit<, take, drop, ◌+◌}
use Rattle.std.proofs.lemmas.Bool.{true≢false}
use Rattle.std.proofs.lemmas.Str.Pattern.{contains_char, starts_char}
use Rattle.requirement_words.specs.Nameless.{slashed, backslashed, with_scheme, archived}
use Rattle.requirement_words.proofs.NamelessLaws.{cut_at, first_byte, neither}
use Rattle.requirement_words.proofs.nameless.is_path_or_url.Goals as goal

pub returns-then-starts_with-clause-yes : goal.returns-then-starts_with-clause-yes
returns-then-starts_with-clause-yes c = λ t. first_byte c.args.text.now ((starts_char 46 c.args.text.now c.starts_with.result c.starts_with.ensures.cases (lit< tt) (lit< tt)).0 c.if-starts_with.true)

pub returns-then-contains-clause-yes : goal.returns-then-contains-clause-yes
returns-then-contains-clause-yes c = λ t.
    let at = (contains_char 47 c.args.text.now c.contains.result c.contains.ensures.cases (lit< tt)).0 c.if-contains.true in
    slashed (take at.0 c.args.text.now) (drop (at.0 + 1) c.args.text.now) (cut_at c.args.text.now at.0 47 at.1 at.2)

pub returns-then-contains-2-clause-yes : goal.returns-then-contains-2-clause-yes
returns-then-contains-2-clause-yes c = λ t.
    let at = (contains_char 92 c.args.text.now c.contains-2.result c.contains-2.ensures.cases (lit< tt)).0 c.if-contains-2.true in
    backslashed (take at.0 c.args.text.now) (drop (at.0 + 1) c.args.text.now) (cut_at c.args.text.now at.0 92 at.1 at.2)

pub returns-in-Some-clause-yes : goal.returns-in-Some-clause-yes
returns-in-Some-clause-yes c = λ t. with_scheme c.in-Some.ensures.found

pub returns-in-None-clause-yes : goal.returns-in-None-clause-yes
returns-in-None-clause-yes c = λ t. archived (c.is_archive.ensures.yes t)

pub returns-in-None-clause-no : goal.returns-in-None-clause-no
returns-in-None-clause-no c = λ h.
    c.is_archive.ensures.no (neither
    (λ e. true≢false (sym ((starts_char 46 c.args.text.now c.starts_with.result c.starts_with.ensures.cases (lit< tt) (lit< tt)).1 e) ∙ c.if-starts_with.false))
    (λ k within e. true≢false (sym ((contains_char 47 c.args.text.now c.contains.result c.contains.ensures.cases (lit< tt)).1 k within e) ∙ c.if-contains.false))
    (λ k within e. true≢false (sym ((contains_char 92 c.args.text.now c.contains-2.result c.contains-2.ensures.cases (lit< tt)).1 k within e) ∙ c.if-contains-2.false))
    c.in-None.ensures.none h)
