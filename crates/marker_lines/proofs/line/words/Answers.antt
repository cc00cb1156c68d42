use Rattle.std.proofs.Common.{◌≡◌, ◌≢◌, ◌++◌, sym, ap, ◌∙◌, subst, length, rules}
use Rattle.std.proofs.lemmas.List.{nil_from_length}
use Rattle.marker_lines.specs.Line.{Words, with_space}
use Rattle.marker_lines.specs.LineView.{texts_of}
use Rattle.marker_lines.proofs.WordLaws.{utf8_after, words_grow, words_left, words_end, words_of_nothing, words_of_space, texts-push}
use Rattle.marker_lines.proofs.line.words.Goals as goal

pub loop-word-init : goal.loop-word-init
loop-word-init c = record {
  utf8 = c.utf8.text;
  grows = λ others w. subst (λ x. Words c.args.text.now (texts_of x ++ others)) (sym c.new-words.ensures.items) w;
  left = λ all w. (all, w);
}

pub returns-then-is_empty-clause-malformed : goal.returns-then-is_empty-clause-malformed
returns-then-is_empty-clause-malformed c = λ e all w.
    let l = c.loop-word.invariant.left all w in
    let none : length c.in-Some.word.now ≡ 0 = search rules in
    words_of_space l.1 (c.in-Some.ensures.1 ∙ ap (λ x. with_space x c.in-Some.after.now) (nil_from_length _ none))

pub loop-word-preserved : goal.loop-word-preserved
loop-word-preserved c =
    let i = c.loop-word.invariant in
    let some : length c.in-Some.word.now ≢ 0 = search rules in
    record {
      utf8 = utf8_after c.in-Some.word.now c.in-Some.after.now i.utf8 c.in-Some.ensures.1;
      grows = words_grow (texts_of c.loop-word.words.items) c.in-Some.word.now i.grows c.in-Some.ensures.1 c.in-Some.ensures.0 (λ e. some (ap length e)) (texts-push c.loop-word.words.items c.in-Some.word c.in-Ok.ensures.items);
      left = words_left c.in-Some.word.now i.left c.in-Some.ensures.1 c.in-Some.ensures.0;
    }

pub returns-then-is_empty-2-clause-malformed : goal.returns-then-is_empty-2-clause-malformed
returns-then-is_empty-2-clause-malformed c = λ e all w.
    let l = c.loop-word.invariant.left all w in
    let none : length c.loop-word.rest.now ≡ 0 = search rules in
    words_of_nothing (subst (λ x. Words x l.0) (nil_from_length _ none) l.1)

pub returns-in-Ok-push-clause-words : goal.returns-in-Ok-push-clause-words
returns-in-Ok-push-clause-words c =
    let i = c.loop-word.invariant in
    let some : length c.loop-word.rest.now ≢ 0 = search rules in
    words_end (texts_of c.loop-word.words.items) i.grows c.in_default.ensures (λ e. some (ap length e)) (texts-push c.loop-word.words.items c.loop-word.rest c.in-Ok-push.ensures.items)
