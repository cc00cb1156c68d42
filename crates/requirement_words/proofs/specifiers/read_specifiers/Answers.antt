use Rattle.std.proofs.Common.{sym, subst, ap, List, ℕ}
use Rattle.std.specs.Str.{chars}
use Rattle.pep508_text.proofs.SuffixLaws.{suffix_self, suffix_then}
use Rattle.pep440_specifier.specs.Grammar.{IsSpecifierText}
use Rattle.requirement_words.specs.Fault.{FindsInSpecifiers, no_specifier}
use Rattle.requirement_words.proofs.FaultLaws.{fault_at_run}
use Rattle.requirement_words.proofs.SpecifierLaws.{going_start, going_more, reading_ended, none_piece, not_memory}
use Rattle.requirement_words.proofs.specifiers.read_specifiers.Goals as goal

pub returns-in-Err-Fault-clause-refused : goal.returns-in-Err-Fault-clause-refused
returns-in-Err-Fault-clause-refused c =
    let told = rw c.in-Err-Fault.field-0-is at c.in-Err-Fault.ensures.fault in (
      fault_at_run (FindsInSpecifiers c.args.end (chars c.args.text.now)) _ c.loop-specifier.invariant.reading.suffix c.split_before_comma.ensures.suffix.utf8 c.split_before_comma.ensures.joined
          c.at.ensures.kind c.at.ensures.place c.at_run.ensures.piece c.at_run.ensures.left
          (no_specifier c.loop-specifier.invariant.preceded (ap chars (sym c.split_before_comma.ensures.joined)) c.split_before_comma.ensures.bytes
          (λ s h. not_memory _ _ c.in-Err-Fault.field-0-is (c.in-Err-Fault.ensures.only s h)) (rw c.in-Err-Fault.field-0-is told)),
      none_piece _ _ _ _ c.loop-specifier.invariant.reading
          (λ s h. not_memory _ _ c.in-Err-Fault.field-0-is (c.in-Err-Fault.ensures.only s (subst (λ (x : List ℕ). IsSpecifierText x s) (sym c.split_before_comma.ensures.bytes) h))),
    )

pub returns-in_default-clause-found : goal.returns-in_default-clause-found
returns-in_default-clause-found c = record {
  list = c.push.new.self.items;
  pieces = reading_ended _ _ _ _ _ _ _ c.loop-specifier.invariant.reading
      (subst (λ (x : List ℕ). IsSpecifierText x c.in-Ok.specifier) c.split_before_comma.ensures.bytes c.in-Ok.ensures.found)
      c.split_before_comma.ensures.rest c.in_default.ensures.none c.in_ok-push.ensures.items;
  is_set = record { same = c.in_ok-set.ensures.same; sorted = c.in_ok-set.ensures.sorted; stable = c.in_ok-set.ensures.stable };
}

pub returns-in_default-clause-suffix : goal.returns-in_default-clause-suffix
returns-in_default-clause-suffix c = suffix_then c.loop-specifier.invariant.reading.suffix c.split_before_comma.ensures.suffix

pub loop-specifier-init : goal.loop-specifier-init
loop-specifier-init c = going_start _ _ _ c.new-specifiers.ensures.items (suffix_self _ c.utf8.text)

pub loop-specifier-preserved : goal.loop-specifier-preserved
loop-specifier-preserved c =
    going_more _ _ _ _ _ _ _ _ c.loop-specifier.invariant
    (suffix_then (suffix_then c.loop-specifier.invariant.reading.suffix c.split_before_comma.ensures.suffix) c.in-Some.ensures.suffix)
    (subst (λ (x : List ℕ). IsSpecifierText x c.in-Ok.specifier) c.split_before_comma.ensures.bytes c.in-Ok.ensures.found)
    c.split_before_comma.ensures.rest c.in-Some.ensures.found c.in_ok-push.ensures.items
