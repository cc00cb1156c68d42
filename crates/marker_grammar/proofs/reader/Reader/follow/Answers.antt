use Rattle.std.proofs.Common.{◌≡◌, [], ◌++◌, ◌-◌, take, refl, sym, ap, ◌∙◌, subst}
use Rattle.std.specs.Str.{chars}
use Rattle.pep508_text.specs.Run.{after_space}
use Rattle.pep508_text.proofs.RunLaws.{trimmed_after_space}
use Rattle.pep508_text.proofs.SuffixLaws.{suffix_then}
use Rattle.pep508_text.specs.Suffix.{IsSuffix}
use Rattle.marker_grammar.specs.declared.reader.Group.{Group}
use Rattle.marker_words.specs.Keyword.{IsKeyword}
use Rattle.marker_words.proofs.FaultLaws.{fault_of_suffix}
use Rattle.marker_grammar.proofs.ReadingLaws.{and_on, and_back}
use Rattle.marker_grammar.proofs.ReaderLaws.{ored, anded, or_same, or_full, close_same, close_full, ored_postfix, anded_postfix, one_left, end_same, fault_end, fault_close, all_before, all_last, ored_valid, anded_valid, not_nil, other_word, fault_of_either}
use Rattle.marker_grammar.proofs.OpenLaws.{opened_and, opened_or, opened_close, opened_end}
use Rattle.marker_grammar.proofs.reader.Reader.follow.Goals as goal

pub returns-in-And-clause-sound : goal.returns-in-And-clause-sound
returns-in-And-clause-sound c =
    record { full = c.requires.full; postfix = c.requires.postfix; valid = c.requires.valid; rest = suffix_then c.requires.rest (suffix_then c.skip_space-text.ensures.suffix c.keyword-word.ensures.suffix); groups = c.requires.groups }

pub returns-in-And-clause-same : goal.returns-in-And-clause-same
returns-in-And-clause-same c =
    let word = subst (λ w. IsKeyword w (chars c.skip_space-text.result.now) (chars c.keyword-word.result.1.now)) c.in-And.is c.keyword-word.ensures.which in
    record {
      readings = λ f k. (λ x. and_on c.skip_space-text.ensures.rest word x, λ y. and_back c.skip_space-text.ensures.rest word y);
      opened = opened_and _ _ _ _ _ _ c.skip_space-text.ensures.rest word;
    }

pub returns-in-Or-clause-sound : goal.returns-in-Or-clause-sound
returns-in-Or-clause-sound c =
    let joined = ored c.args.self.now c.requires _ _ c.in_ok-whole.ensures.tokens c.in_ok-whole.ensures.any in
    record { full = or_full _ joined c.requires.full; postfix = ored_postfix c.args.self.now c.requires _ c.in_ok-whole.ensures.tokens; valid = ored_valid c.args.self.now c.requires _ c.in_ok-whole.ensures.tokens; rest = suffix_then c.requires.rest (suffix_then c.skip_space-text.ensures.suffix c.keyword-word.ensures.suffix); groups = c.requires.groups }

pub returns-in-Or-clause-same : goal.returns-in-Or-clause-same
returns-in-Or-clause-same c =
    let joined = ored c.args.self.now c.requires _ _ c.in_ok-whole.ensures.tokens c.in_ok-whole.ensures.any in
    let word = subst (λ w. IsKeyword w (chars c.skip_space-text.result.now) (chars c.keyword-word.result.1.now)) c.in-Or.is c.keyword-word.ensures.which in
    record {
      readings = or_same c.args.self.now.groups.items joined c.skip_space-text.ensures.rest word;
      opened = opened_or _ _ _ joined c.skip_space-text.ensures.rest word;
    }

pub returns-in-Some-first-clause-err : goal.returns-in-Some-first-clause-err
returns-in-Some-first-clause-err c =
    let items = c.args.self.now.groups.items in
    let none : items ≡ [] = c.in_default-pop.ensures.items ∙ ap (λ x. x ++ []) (c.in_default-pop.ensures.rest ∙ ap (λ n. take (n - 1) items) c.in_default-pop.ensures.cases.0) in
    let wordless = other_word _ _ c.in_default.not-And c.in_default-word.not-Or c.keyword-word.ensures.which in (
      λ opened. fault_of_suffix (suffix_then c.requires.rest c.skip_space-text.ensures.suffix) (c.unexpected_fault.ensures (ap after_space c.skip_space-text.ensures.rest ∙ trimmed_after_space (chars c.args.self.now.rest.now) ∙ sym c.skip_space-text.ensures.rest) wordless),
      fault_end items _ none c.skip_space-text.ensures.rest wordless (not_nil _ c.in-Some-first.ensures.characters),
    )

pub returns-in_default-pop-clause-ended : goal.returns-in_default-pop-clause-ended
returns-in_default-pop-clause-ended c =
    let joined = ored c.args.self.now c.requires _ _ c.in_ok-whole.ensures.tokens c.in_ok-whole.ensures.any in
    let items = c.args.self.now.groups.items in
    let none : items ≡ [] = c.in_default-pop.ensures.items ∙ ap (λ x. x ++ []) (c.in_default-pop.ensures.rest ∙ ap (λ n. take (n - 1) items) c.in_default-pop.ensures.cases.0) in
    record {
      text = refl;
      one = end_same items none joined c.requires.full c.skip_space-text.ensures.rest c.in_default-first.ensures.characters;
      whole = (ored_postfix c.args.self.now c.requires _ c.in_ok-whole.ensures.tokens, one_left c.args.self.now c.requires _ _ none joined);
      valid = ored_valid c.args.self.now c.requires _ c.in_ok-whole.ensures.tokens;
    }

pub returns-in_default-strip-clause-err : goal.returns-in_default-strip-clause-err
returns-in_default-strip-clause-err c =
    let popped = c.in-Some.ensures.items in
    let wordless = other_word _ _ c.in_default.not-And c.in_default-word.not-Or c.keyword-word.ensures.which in (
      λ opened. fault_of_either (suffix_then c.requires.rest c.skip_space-text.ensures.suffix) (all_last (λ (g : Group). IsSuffix c.args.self.now.text.now g.text.now) _ _ popped c.requires.groups) (c.unclosed_fault.ensures c.in_default-strip.ensures.none (opened_end _ _ _ popped _ _ _ _ _ _ c.skip_space-text.ensures.rest opened)),
      fault_close _ _ _ popped c.skip_space-text.ensures.rest wordless c.in_default-strip.ensures.none,
    )

pub returns-clause-sound : goal.returns-clause-sound
returns-clause-sound c =
    let popped = c.in-Some.ensures.items in
    let or_joined = ored c.args.self.now c.requires _ _ c.in_ok-whole.ensures.tokens c.in_ok-whole.ensures.any in
    let and_joined = anded c.args.self.now c.requires _ c.in-Some.group popped _ _ _ _ or_joined c.in_ok-self.ensures.tokens c.in_ok-self.ensures.any in
    record {
      full = close_full _ c.in-Some.group popped or_joined and_joined c.requires.full;
      postfix = anded_postfix c.args.self.now c.requires _ c.in-Some.group popped _ _ _ or_joined (ored_postfix c.args.self.now c.requires _ c.in_ok-whole.ensures.tokens) c.in_ok-self.ensures.tokens;
      valid = anded_valid c.args.self.now c.requires _ c.in-Some.group popped _ _ _ or_joined (ored_valid c.args.self.now c.requires _ c.in_ok-whole.ensures.tokens) c.in_ok-self.ensures.tokens;
      rest = suffix_then c.requires.rest (suffix_then c.skip_space-text.ensures.suffix c.in-Some-strip.ensures.suffix);
      groups = all_before (λ (g : Group). IsSuffix c.args.self.now.text.now g.text.now) _ _ popped c.requires.groups;
    }

pub returns-clause-same : goal.returns-clause-same
returns-clause-same c =
    let popped = c.in-Some.ensures.items in
    let or_joined = ored c.args.self.now c.requires _ _ c.in_ok-whole.ensures.tokens c.in_ok-whole.ensures.any in
    let and_joined = anded c.args.self.now c.requires _ c.in-Some.group popped _ _ _ _ or_joined c.in_ok-self.ensures.tokens c.in_ok-self.ensures.any in
    record {
      readings = close_same _ c.in-Some.group popped or_joined and_joined c.skip_space-text.ensures.rest c.in-Some-strip.ensures.found;
      opened = opened_close _ c.in-Some.group _ popped _ _ _ _ or_joined and_joined c.skip_space-text.ensures.rest c.in-Some-strip.ensures.found;
    }
