use Rattle.std.proofs.Common.{sym, subst, ◌∙◌}
use Rattle.std.specs.Str.{chars}
use Rattle.pep508_text.specs.declared.classes.Class.TheVariants.{WordPart, Comparison}
use Rattle.pep508_text.proofs.RunLaws.{run_from_bytes}
use Rattle.pep508_text.proofs.SuffixLaws.{suffix_then}
use Rattle.marker_words.specs.declared.fault.FaultKind.TheVariants.{NoOperator}
use Rattle.marker_words.specs.Fault.{HasNoOperator}
use Rattle.marker_words.specs.Lexical.{is_in}
use Rattle.marker_words.proofs.FaultLaws.{fault_at_run, fault_of_suffix, longest_operator}
use Rattle.marker_words.proofs.OperatorLaws.{ascii_in, ascii_not, not_in_operator, no_word_operator, no_symbol_operator, symbol_found, word_class, symbol_class}
use Rattle.marker_words.proofs.lexical.comparison_operator.Goals as goal

pub returns-in-in-clause-found : goal.returns-in-in-clause-found
returns-in-in-clause-found c = is_in (run_from_bytes c.split_run.ensures.bytes c.split_run.ensures.rest c.in-in.is ascii_in)

pub returns-in-Ok-clause-found : goal.returns-in-Ok-clause-found
returns-in-Ok-clause-found c = not_in_operator (run_from_bytes c.split_run.ensures.bytes c.split_run.ensures.rest c.in-not.is ascii_not) c.in-Ok.ensures.found

pub returns-in-Ok-clause-suffix : goal.returns-in-Ok-clause-suffix
returns-in-Ok-clause-suffix c = suffix_then c.split_run.ensures.suffix c.in-Ok.ensures.suffix

pub returns-in-Err-clause-none : goal.returns-in-Err-clause-none
returns-in-Err-clause-none c output operator s =
    no_word_operator (sym c.begins_word.ensures ∙ c.if-begins_word.true) c.split_run.ensures.bytes c.split_run.ensures.rest c.in-not.not-in (λ _ p behind. c.in-Err.ensures.none p behind) s

pub returns-in-Err-clause-fault : goal.returns-in-Err-clause-fault
returns-in-Err-clause-fault c = fault_of_suffix c.split_run.ensures.suffix c.in-Err.ensures.fault

pub returns-in_default-clause-none : goal.returns-in_default-clause-none
returns-in_default-clause-none c output operator s =
    no_word_operator (sym c.begins_word.ensures ∙ c.if-begins_word.true) c.split_run.ensures.bytes c.split_run.ensures.rest c.in_default.not-in (λ e p behind. c.in_default.not-not e) s

pub returns-in_default-clause-fault : goal.returns-in_default-clause-fault
returns-in_default-clause-fault c =
    let class_is = word_class (chars c.args.text.now) (sym c.begins_word.ensures ∙ c.if-begins_word.true) in
    fault_at_run NoOperator c.utf8.text c.split_run.ensures.suffix c.split_run.ensures.joined c.at.ensures.kind c.at.ensures.place c.at_run.ensures.piece c.at_run.ensures.left (longest_operator _ _ _ WordPart class_is c.split_run.ensures.joined c.split_run.ensures.bytes, subst HasNoOperator c.split_run.ensures.joined (returns-in_default-clause-none c))

pub returns-in-Some-clause-found : goal.returns-in-Some-clause-found
returns-in-Some-clause-found c = symbol_found c.in-Some.operator c.in-Some.ensures.found c.split_run-else-begins_word.ensures.bytes c.split_run-else-begins_word.ensures.rest

pub returns-in-None-clause-none : goal.returns-in-None-clause-none
returns-in-None-clause-none c output operator s =
    no_symbol_operator (sym c.begins_word.ensures ∙ c.if-begins_word.false) c.split_run-else-begins_word.ensures.bytes c.in-None.ensures.none s

pub returns-in-None-clause-fault : goal.returns-in-None-clause-fault
returns-in-None-clause-fault c =
    let class_is = symbol_class (chars c.args.text.now) (sym c.begins_word.ensures ∙ c.if-begins_word.false) in
    fault_at_run NoOperator c.utf8.text c.split_run-else-begins_word.ensures.suffix c.split_run-else-begins_word.ensures.joined c.at-in-None.ensures.kind c.at-in-None.ensures.place c.at_run-in-None.ensures.piece c.at_run-in-None.ensures.left (longest_operator _ _ _ Comparison class_is c.split_run-else-begins_word.ensures.joined c.split_run-else-begins_word.ensures.bytes, subst HasNoOperator c.split_run-else-begins_word.ensures.joined (returns-in-None-clause-none c))
