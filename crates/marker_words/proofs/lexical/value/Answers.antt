use Rattle.std.proofs.Common.{sym, subst, rules, refl, ◌∙◌}
use Rattle.pep508_text.proofs.SuffixLaws.{suffix_then}
use Rattle.pep508_text.specs.declared.classes.Class.TheVariants.{KeyPart}
use Rattle.marker_words.specs.declared.fault.FaultKind.TheVariants.{ValueAtEnd, Unclosed, NoValue}
use Rattle.marker_words.specs.Fault.{HasNoValue, quotes}
use Rattle.marker_words.specs.Lexical.{IsQuote}
use Rattle.marker_words.proofs.FaultLaws.{fault_at_end, fault_at_first, fault_at_run, run_longest}
use Rattle.marker_words.proofs.ValueLaws.{quoted_value, no_value_at_end, no_value_unclosed, no_value_named, named_found, named_shorter}
use Rattle.marker_words.proofs.lexical.value.Goals as goal

pub returns-in_default-clause-none : goal.returns-in_default-clause-none
returns-in_default-clause-none c output value v = no_value_at_end c.in_default.ensures.characters v

pub returns-in_default-clause-fault : goal.returns-in_default-clause-fault
returns-in_default-clause-fault c = fault_at_end ValueAtEnd c.at.ensures.kind c.at.ensures.place c.at_end.ensures.piece c.at_end.ensures.left refl

pub returns-in-Some-first-clause-found : goal.returns-in-Some-first-clause-found
returns-in-Some-first-clause-found c =
    let is_quote : IsQuote c.in-Some.c = search rules in
    quoted_value _ _ _ _ _ _ c.in-Some.ensures.characters is_quote (sym c.split_before_quote.ensures.rest ∙ c.in-Some-first.ensures.characters) c.split_before_quote.ensures.bytes

pub returns-in-Some-first-clause-suffix : goal.returns-in-Some-first-clause-suffix
returns-in-Some-first-clause-suffix c = suffix_then c.in-Some.ensures.suffix (suffix_then c.split_before_quote.ensures.suffix c.in-Some-first.ensures.suffix)

pub returns-in-None-clause-none : goal.returns-in-None-clause-none
returns-in-None-clause-none c output value v =
    let is_quote : IsQuote c.in-Some.c = search rules in
    no_value_unclosed c.in-Some.ensures.characters is_quote (sym c.split_before_quote.ensures.rest ∙ c.in-None.ensures.characters) v

pub returns-in-None-clause-fault : goal.returns-in-None-clause-fault
returns-in-None-clause-fault c =
    let is_quote : IsQuote c.in-Some.c = search rules in
    fault_at_first c.in-Some.c (Unclosed c.in-Some.c) c.utf8.text c.in-Some.ensures.suffix c.in-Some.ensures.bytes c.at-in-None.ensures.kind c.at-in-None.ensures.place c.before-in-None.ensures.piece c.before-in-None.ensures.left (λ e. (c.in-Some.c, quotes is_quote (sym c.split_before_quote.ensures.rest ∙ c.in-None.ensures.characters), e))

pub returns-in-Some-value_of_name-clause-found : goal.returns-in-Some-value_of_name-clause-found
returns-in-Some-value_of_name-clause-found c = named_found _ _ _ _ c.split_run.ensures.bytes c.split_run.ensures.rest c.in-Some-value_of_name.ensures.found

pub returns-in-Some-value_of_name-clause-shorter : goal.returns-in-Some-value_of_name-clause-shorter
returns-in-Some-value_of_name-clause-shorter c = named_shorter _ _ _ _ c.in-Some-value_of_name.ensures.found c.split_run.ensures.joined

pub returns-in-None-value_of_name-clause-none : goal.returns-in-None-value_of_name-clause-none
returns-in-None-value_of_name-clause-none c output value v =
    let plain : IsQuote c.in-Some.c → ⊥ = search rules in
    no_value_named c.in-Some.c value c.in-Some.ensures.characters plain c.split_run.ensures.bytes c.in-None-value_of_name.ensures.none v

pub returns-in-None-value_of_name-clause-fault : goal.returns-in-None-value_of_name-clause-fault
returns-in-None-value_of_name-clause-fault c =
    fault_at_run NoValue c.utf8.text c.split_run.ensures.suffix c.split_run.ensures.joined c.at-in-None-value_of_name.ensures.kind c.at-in-None-value_of_name.ensures.place c.at_run.ensures.piece c.at_run.ensures.left (run_longest _ _ _ KeyPart c.split_run.ensures.joined c.split_run.ensures.bytes, subst HasNoValue c.split_run.ensures.joined (returns-in-None-value_of_name-clause-none c))
