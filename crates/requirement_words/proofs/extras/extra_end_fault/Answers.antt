use Rattle.std.proofs.Common.{◌≡◌, ◌∷◌, ◌∙◌, true, sym, ap}
use Rattle.std.specs.Str.{chars}
use Rattle.std.proofs.lemmas.Str.{encode_ascii}
use Rattle.requirement_words.specs.Fault.{ends_extra, extra_end, FindsInExtras, invalid_extra}
use Rattle.requirement_words.specs.declared.fault.FaultKind.TheVariants.{InvalidExtra, ExtraEnd}
use Rattle.requirement_words.proofs.ExtrasLaws.{run_ends}
use Rattle.requirement_words.proofs.FaultLaws.{fault_at_first, fault_at_last}
use Rattle.requirement_words.proofs.extras.extra_end_fault.Goals as goal
use Rattle.requirement_words.proofs.extras.extra_end_fault.Goals.{Joined-first, in-Some+else-not-may_follow_extra, in_default}

pub returns-then-not-may_follow_extra : goal.returns-then-not-may_follow_extra
returns-then-not-may_follow_extra c = λ inside names listed.
    fault_at_first (FindsInExtras (91 ∷ inside)) InvalidExtra c.in-Some.next c.requires.suffix c.in-Some.ensures.suffix c.in-Some.ensures.bytes
    c.at.ensures.kind c.at.ensures.place c.before-then-not-may_follow_extra.ensures.piece c.before-then-not-may_follow_extra.ensures.left
    (λ e. invalid_extra listed c.requires.begins (ap chars (sym c.before-then-not-may_follow_extra.ensures.piece) ∙ sym c.requires.run.rest_is)
    (record { c = c.in-Some.next; is = e; holds = sym c.may_follow_extra.ensures ∙ c.if-not-may_follow_extra.true }))

pub at_last-requires : goal.at_last-requires
at_last-requires c =
    let end = run_ends _ _ c.requires.run c.utf8.run c.requires.begins c.requires.no_name in
    (end.front, end.c, end.joined, end.ascii)

-- the text ends, or what may follow a name does
ends : (c : Joined-first) → ends_extra (chars c.args.rest.now) ≡ true
ends c = elim c.match-first.branch [
  | in-Some+else-not-may_follow_extra w ↦ ap ends_extra w.in-Some.ensures.characters ∙ sym w.may_follow_extra.ensures ∙ w.if-not-may_follow_extra.false
  | in_default w ↦ ap ends_extra w.in_default.ensures.characters
]

pub returns : goal.returns
returns c = λ inside names listed.
    let end = run_ends _ _ c.requires.run c.utf8.run c.requires.begins c.requires.no_name in
    fault_at_last (FindsInExtras (91 ∷ inside)) ExtraEnd end.front end.c c.requires.joined c.requires.suffix end.joined end.ascii
    c.at-2.ensures.kind c.at-2.ensures.place c.at_last.ensures.piece c.at_last.ensures.left
    (λ e. extra_end listed (record { front = end.front; c = end.c; begins = c.requires.begins; ends = c.requires.run.run_is ∙ end.characters; is = e ∙ sym (encode_ascii end.c end.ascii); separator = end.separator }) (sym c.requires.run.rest_is) (ends (goal.at.returns c).Joined-first))
