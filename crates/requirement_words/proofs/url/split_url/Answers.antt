use Rattle.std.proofs.Common.{sym, subst, ap, ◌∙◌, ◌≡◌, ◌∷◌, true}
use Rattle.std.specs.Str.{chars}
use Rattle.pep508_text.specs.Suffix.{IsSuffix}
use Rattle.requirement_words.specs.Url.{after_url, is_url_stop, stops, url_of}
use Rattle.pep508_text.proofs.Splits.{Stopped, suffix_of}
use Rattle.requirement_words.proofs.UrlLaws.{going_start, going_more, going_white, url_stopped, url_closed, stops_at_break, stops_at_space}
use Rattle.requirement_words.proofs.url.split_url.Goals as goal
use Rattle.requirement_words.proofs.url.split_url.Goals.{Joined-first, in-Some+then-is_line_break, in-Some+else-is_line_break+then-may_end_before+then-is_url_stop, in-Some+else-is_line_break+else-may_end_before+then-ends, in_default}

pub loop-c-init : goal.loop-c-init
loop-c-init c = going_start _ _ c.utf8.text

pub loop-c-preserved-then-may_end_before : goal.loop-c-preserved-then-may_end_before
loop-c-preserved-then-may_end_before c =
    going_white _ _ _ _ c.split_run.result.0.now _ _ c.in-Some.c c.utf8.text c.loop-c.invariant
    (sym c.is_line_break.ensures ∙ c.if-is_line_break.false) (sym c.may_end_before.ensures ∙ c.if-may_end_before.true)
    (ap is_url_stop (sym c.skip_space.ensures.rest) ∙ sym c.is_url_stop.ensures ∙ c.if-is_url_stop.false)
    c.in-Some.ensures.bytes c.in-Some.ensures.characters c.in-Some.ensures.shorter
    c.split_run.ensures.joined c.split_run.ensures.suffix.utf8 c.split_run.ensures.run c.split_run.ensures.rest c.split_run.ensures.no_longer

pub loop-c-preserved : goal.loop-c-preserved
loop-c-preserved c =
    going_more _ _ _ _ _ _ c.in-Some.c c.utf8.text c.loop-c.invariant
    (sym c.is_line_break.ensures ∙ c.if-is_line_break.false) (sym c.may_end_before.ensures ∙ c.if-may_end_before.false)
    (sym c.closes-ends.ensures ∙ c.if-ends.false)
    c.in-Some.ensures.bytes c.in-Some.ensures.characters c.in-Some.ensures.shorter c.open_behind-brackets.ensures

-- the loop ends before what ends a URL, behind a character that ends one, or at the end of the text
ended : (c : Joined-first) → Stopped (url_of c.args.place 0) (after_url c.args.place 0) c.args.text.now c.match-first.rest.now
ended c = elim c.match-first.branch [
  | in-Some+then-is_line_break w ↦
      let stop : stops c.loop-c.brackets (w.in-Some.c ∷ chars w.in-Some.after.now) ≡ true = stops_at_break c.loop-c.brackets w.in-Some.c (chars w.in-Some.after.now) (sym w.is_line_break.ensures ∙ w.if-is_line_break.true) in
      rw w.rest-is (url_stopped _ _ _ _ c.utf8.text c.loop-c.invariant (ap (stops c.loop-c.brackets) w.in-Some.ensures.characters ∙ stop))
  | in-Some+else-is_line_break+then-may_end_before+then-is_url_stop w ↦
      let stop : stops c.loop-c.brackets (w.in-Some.c ∷ chars w.in-Some.after.now) ≡ true =
      stops_at_space c.loop-c.brackets w.in-Some.c (chars w.in-Some.after.now) (sym w.may_end_before.ensures ∙ w.if-may_end_before.true) (ap is_url_stop (sym w.skip_space.ensures.rest) ∙ sym w.is_url_stop.ensures ∙ w.if-is_url_stop.true) in
      rw w.rest-is (url_stopped _ _ _ _ c.utf8.text c.loop-c.invariant (ap (stops c.loop-c.brackets) w.in-Some.ensures.characters ∙ stop))
  | in-Some+else-is_line_break+else-may_end_before+then-ends w ↦
      rw w.rest-is (url_closed _ _ _ _ _ w.in-Some.c c.utf8.text c.loop-c.invariant
      (sym w.is_line_break.ensures ∙ w.if-is_line_break.false) (sym w.may_end_before.ensures ∙ w.if-may_end_before.false)
      (sym w.closes-ends.ensures ∙ w.if-ends.true) w.in-Some.ensures.bytes w.in-Some.ensures.characters)
  | in_default w ↦
      rw w.rest-is (url_stopped _ _ _ _ c.utf8.text c.loop-c.invariant (ap (stops c.loop-c.brackets) w.in_default.ensures.characters))
]

pub split_at-requires : goal.split_at-requires
split_at-requires c = (ended c).boundary

pub returns-clause-bytes : goal.returns-clause-bytes
returns-clause-bytes c =
    let s = ended (goal.at.returns-clause-bytes c).Joined-first in
    c.split_at.ensures.front ∙ s.front_is ∙ s.bytes

pub returns-clause-url : goal.returns-clause-url
returns-clause-url c =
    let s = ended (goal.at.returns-clause-url c).Joined-first in
    ap chars (c.split_at.ensures.front ∙ s.front_is) ∙ s.run

pub returns-clause-rest : goal.returns-clause-rest
returns-clause-rest c =
    let s = ended (goal.at.returns-clause-rest c).Joined-first in
    ap chars (c.split_at.ensures.back ∙ s.rest_is) ∙ s.after

pub returns-clause-suffix : goal.returns-clause-suffix
returns-clause-suffix c =
    let s = ended (goal.at.returns-clause-suffix c).Joined-first in
    subst (IsSuffix c.args.text.now) (sym (c.split_at.ensures.back ∙ s.rest_is)) (suffix_of s.front s.joined s.rest_utf8)
