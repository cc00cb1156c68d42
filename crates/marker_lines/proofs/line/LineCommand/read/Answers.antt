use Rattle.std.proofs.Common.{◌≡◌, sym, ◌∙◌, subst, ap}
use Rattle.marker_lines.specs.Word.{word_text}
use Rattle.marker_lines.specs.Line.{HasNoSpace, with_space}
use Rattle.marker_lines.proofs.AskLaws.{asks_spaced, asks_from, asks_only, no_other}
use Rattle.marker_lines.proofs.line.LineCommand.read.Goals as goal

pub returns-in_default-split_word-clause-malformed : goal.returns-in_default-split_word-clause-malformed
returns-in_default-split_word-clause-malformed c = λ e request. asks_spaced (subst HasNoSpace c.in-Ok.ensures.cases.0 c.in_default-split_word.ensures)

pub returns-in-Some-parse-clause-only : goal.returns-in-Some-parse-clause-only
returns-in-Some-parse-clause-only c =
    let parts : c.args.line.now ≡ with_space (word_text c.in-Some-parse.word) c.in-Some.rest.now = sym c.in-Ok.ensures.cases.0 ∙ c.in-Some.ensures.1 ∙ ap (λ x. with_space x c.in-Some.rest.now) c.in-Some-parse.ensures in
    asks_only c.args.line.now c.read_behind.result (asks_from c.args.line.now c.in-Some-parse.word c.in-Some.rest.now c.read_behind.result parts c.read_behind.ensures.takes)

pub returns-in-None-clause-malformed : goal.returns-in-None-clause-malformed
returns-in-None-clause-malformed c = λ e request.
    no_other c.in-Some.first.now c.in-Some.rest.now c.in-Some.ensures.0 (sym c.in-Ok.ensures.cases.0 ∙ c.in-Some.ensures.1) c.in-None.ensures
