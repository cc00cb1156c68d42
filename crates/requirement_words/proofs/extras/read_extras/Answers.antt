use Rattle.std.proofs.Common.{sym, subst, ap, ◌∙◌, ◌∷◌, List, ℕ}
use Rattle.std.specs.Str.{chars}
use Rattle.pep508_text.specs.Run.{after_space}
use Rattle.pep508_text.proofs.SuffixLaws.{same_front, suffix_self, suffix_then}
use Rattle.requirement_words.specs.Extras.{IsExtras}
use Rattle.requirement_words.specs.Fault.{before_name, begins_name, behind_name, FindsInExtras, Listed}
use Rattle.requirement_words.specs.declared.fault.FaultKind.TheVariants.{UnclosedBracket}
use Rattle.requirement_words.proofs.ExtrasLaws.{reading_closed, none_more, none_name, without_bracket, none_inside, going_start, going_more, listed_first, in_text, named, never_closed, not_named, nothing_named, not_begun, refused_name}
use Rattle.requirement_words.proofs.FaultLaws.{fault_before}
use Rattle.requirement_words.proofs.extras.read_extras.Goals as goal

pub returns-in_default-clause-found : goal.returns-in_default-clause-found
returns-in_default-clause-found c = without_bracket _ _ c.new-names.ensures.items c.in_default.ensures.none

pub returns-in-Some-strip-clause-found : goal.returns-in-Some-strip-clause-found
returns-in-Some-strip-clause-found c = none_inside _ _ _ _ _ c.new-names.ensures.items c.in-Some.ensures.found c.skip_space.ensures.rest c.in-Some-strip.ensures.found

pub returns-in-Some-strip-clause-suffix : goal.returns-in-Some-strip-clause-suffix
returns-in-Some-strip-clause-suffix c = suffix_then c.in-Some.ensures.suffix (suffix_then c.skip_space.ensures.suffix c.in-Some-strip.ensures.suffix)

pub loop-found-init : goal.loop-found-init
loop-found-init c =
    going_start _ _ _ c.new-names.ensures.items c.in-Some.ensures.suffix c.in-Some.ensures.found
    (λ rest e. c.in_default-strip.ensures.none rest (c.skip_space.ensures.rest ∙ e))

pub returns-in_default-first-clause-refused : goal.returns-in_default-first-clause-refused
returns-in_default-first-clause-refused c = (
  fault_before (FindsInExtras (chars c.args.text.now)) UnclosedBracket (suffix_self _ c.utf8.text) c.in-Some.ensures.suffix.utf8
      c.at.ensures.kind c.at.ensures.place c.before-opening.ensures.piece c.before-opening.ensures.left
      (never_closed c.in-Some.ensures.found c.before-opening.ensures.piece (same_front _ _ _ _ c.before-opening.ensures.piece c.in-Some.ensures.bytes)
      (before_name c.loop-found.invariant.listed (sym c.skip_space-here.ensures.rest ∙ c.in_default-first.ensures.characters))),
  none_name _ _ _ c.loop-found.invariant.reading (nothing_named _ _ c.skip_space-here.ensures.rest c.in_default-first.ensures.characters),
)

pub extra_fault-requires-clause-no_bracket : goal.extra_fault-requires-clause-no_bracket
extra_fault-requires-clause-no_bracket c = λ first bracket.
    c.in_default-strip.ensures.none (chars c.in-Some-first.after.now)
    (c.skip_space.ensures.rest ∙ sym (listed_first c.loop-found.invariant.listed (sym c.as_slice.ensures.value ∙ first)) ∙ sym c.skip_space-here.ensures.rest ∙ c.in-Some-first.ensures.characters ∙ ap (λ (x : ℕ). x ∷ chars c.in-Some-first.after.now) bracket)

pub returns-then-not-is_ascii_alphanumeric-clause-refused : goal.returns-then-not-is_ascii_alphanumeric-clause-refused
returns-then-not-is_ascii_alphanumeric-clause-refused c = (
  in_text (chars c.in-Some.inside.now) (suffix_then c.loop-found.invariant.reading.suffix c.skip_space-here.ensures.suffix) c.in-Some.ensures.found
      (c.extra_fault.ensures (chars c.in-Some.inside.now) (subst (λ (x : List ℕ). Listed (chars c.in-Some.inside.now) c.as_slice.result.now x) (sym c.skip_space-here.ensures.rest) (subst (λ (ns : List (List ℕ)). Listed (chars c.in-Some.inside.now) ns (after_space (chars c.loop-found.left.now))) (sym c.as_slice.ensures.value) c.loop-found.invariant.listed))),
  none_name _ _ _ c.loop-found.invariant.reading
      (not_begun _ _ _ _ c.skip_space-here.ensures.rest c.in-Some-first.ensures.characters (sym c.is_ascii_alphanumeric.ensures.value ∙ c.if-not-is_ascii_alphanumeric.true)),
)

pub extra_end_fault-requires-clause-run : goal.extra_end_fault-requires-clause-run
extra_end_fault-requires-clause-run c = record { run_is = sym c.split_run.ensures.run; rest_is = sym c.split_run.ensures.rest }

pub extra_end_fault-requires-clause-begins : goal.extra_end_fault-requires-clause-begins
extra_end_fault-requires-clause-begins c =
    ap begins_name c.in-Some-first.ensures.characters ∙ sym c.is_ascii_alphanumeric.ensures.value ∙ c.if-not-is_ascii_alphanumeric.false

pub returns-in-Err-Fault-clause-refused : goal.returns-in-Err-Fault-clause-refused
returns-in-Err-Fault-clause-refused c = (
  in_text (chars c.in-Some.inside.now) (suffix_then c.loop-found.invariant.reading.suffix c.skip_space-here.ensures.suffix) c.in-Some.ensures.found
      (c.extra_end_fault.ensures (chars c.in-Some.inside.now) c.loop-found.names.items (subst (λ (x : List ℕ). Listed (chars c.in-Some.inside.now) c.loop-found.names.items x) (sym c.skip_space-here.ensures.rest) c.loop-found.invariant.listed)),
  none_name _ _ _ c.loop-found.invariant.reading (not_named _ _ _ c.skip_space-here.ensures.rest c.split_run.ensures.bytes (refused_name _ _ _ c.in-Err-Fault.field-0-is c.in-Err-Fault.ensures.refused)),
)

pub returns-in-Some-strip-2-clause-found : goal.returns-in-Some-strip-2-clause-found
returns-in-Some-strip-2-clause-found c =
    subst (IsExtras (chars c.args.text.now) (chars c.in-Some-strip-2.rest.now)) (sym c.in_ok-push.ensures.items)
    (reading_closed _ _ _ _ _ _ c.loop-found.invariant.reading
    (named _ _ _ _ _ c.skip_space-here.ensures.rest c.split_run.ensures.bytes c.split_run.ensures.rest c.in-Ok.ensures.read)
    (sym c.skip_space-behind.ensures.rest ∙ c.in-Some-strip-2.ensures.found))

pub returns-in-Some-strip-2-clause-suffix : goal.returns-in-Some-strip-2-clause-suffix
returns-in-Some-strip-2-clause-suffix c =
    suffix_then c.loop-found.invariant.reading.suffix (suffix_then c.skip_space-here.ensures.suffix
    (suffix_then c.split_run.ensures.suffix (suffix_then c.skip_space-behind.ensures.suffix c.in-Some-strip-2.ensures.suffix)))

pub returns-in_default-first-2-clause-refused : goal.returns-in_default-first-2-clause-refused
returns-in_default-first-2-clause-refused c =
    let name = named _ _ _ _ _ c.skip_space-here.ensures.rest c.split_run.ensures.bytes c.split_run.ensures.rest c.in-Ok.ensures.read in (
      fault_before (FindsInExtras (chars c.args.text.now)) UnclosedBracket (suffix_self _ c.utf8.text) c.in-Some.ensures.suffix.utf8
          c.at-in_default-first-2.ensures.kind c.at-in_default-first-2.ensures.place c.before-opening-in_default-first-2.ensures.piece c.before-opening-in_default-first-2.ensures.left
          (never_closed c.in-Some.ensures.found c.before-opening-in_default-first-2.ensures.piece (same_front _ _ _ _ c.before-opening-in_default-first-2.ensures.piece c.in-Some.ensures.bytes)
          (behind_name c.loop-found.invariant.listed name (sym c.skip_space-behind.ensures.rest ∙ c.in_default-first-2.ensures.characters))),
      none_more _ _ _ _ _ c.loop-found.invariant.reading name
          (λ x e. c.in_default-strip-2.ensures.none x (c.skip_space-behind.ensures.rest ∙ e))
          (λ x e. c.in_default-strip-3.ensures.none x (c.skip_space-behind.ensures.rest ∙ e)),
    )

pub returns-in_default-strip-3-clause-refused : goal.returns-in_default-strip-3-clause-refused
returns-in_default-strip-3-clause-refused c =
    let name = named _ _ _ _ _ c.skip_space-here.ensures.rest c.split_run.ensures.bytes c.split_run.ensures.rest c.in-Ok.ensures.read in (
      in_text (chars c.in-Some.inside.now) (suffix_then c.loop-found.invariant.reading.suffix (suffix_then c.skip_space-here.ensures.suffix (suffix_then c.split_run.ensures.suffix c.skip_space-behind.ensures.suffix))) c.in-Some.ensures.found
          (c.separator_fault.ensures (chars c.in-Some.inside.now) (record { names = c.loop-found.names.items; here = after_space (chars c.loop-found.left.now); n = c.in-Ok.name; listed = c.loop-found.invariant.listed; named = name })),
      none_more _ _ _ _ _ c.loop-found.invariant.reading name
          (λ x e. c.in_default-strip-2.ensures.none x (c.skip_space-behind.ensures.rest ∙ e))
          (λ x e. c.in_default-strip-3.ensures.none x (c.skip_space-behind.ensures.rest ∙ e)),
    )

pub loop-found-preserved : goal.loop-found-preserved
loop-found-preserved c =
    going_more _ _ _ _ _ _ _ _ _ c.loop-found.invariant
    (named _ _ _ _ _ c.skip_space-here.ensures.rest c.split_run.ensures.bytes c.split_run.ensures.rest c.in-Ok.ensures.read)
    c.skip_space-behind.ensures.rest c.in-Some-strip-3.ensures.found
    (suffix_then c.loop-found.invariant.reading.suffix (suffix_then c.skip_space-here.ensures.suffix
    (suffix_then c.split_run.ensures.suffix (suffix_then c.skip_space-behind.ensures.suffix c.in-Some-strip-3.ensures.suffix))))
    c.in_ok-push.ensures.items
