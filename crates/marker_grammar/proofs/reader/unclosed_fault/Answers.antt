use Rattle.std.proofs.Common.{refl, inl, inr}
use Rattle.marker_words.specs.Fault.{parentheses}
use Rattle.marker_words.specs.declared.fault.FaultKind.TheVariants.{Missing, Unclosed}
use Rattle.marker_words.proofs.FaultLaws.{fault_at_first}
use Rattle.marker_grammar.proofs.FaultsOfReader.{begins_some, other_first}
use Rattle.marker_grammar.proofs.reader.unclosed_fault.Goals as goal

pub returns-in-Some : goal.returns-in-Some
returns-in-Some c missing opens =
    inl (fault_at_first c.in-Some.field-0-0 (Missing 41) c.utf8.text c.in-Some.ensures.suffix c.in-Some.ensures.bytes c.at.ensures.kind c.at.ensures.place c.before-in-Some.ensures.piece c.before-in-Some.ensures.left (λ e. (c.in-Some.field-0-0, e, other_first _ _ _ _ missing c.in-Some.ensures.characters, inr refl)))

pub returns-in-Some-strip : goal.returns-in-Some-strip
returns-in-Some-strip c missing opens =
    inr (fault_at_first 40 (Unclosed 41) c.utf8.group c.in-Some-strip.ensures.suffix c.in-Some-strip.ensures.bytes c.at-in-Some-strip.ensures.kind c.at-in-Some-strip.ensures.place c.before-in-Some-strip.ensures.piece c.before-in-Some-strip.ensures.left (λ e. (40, parentheses (opens c.in_default.ensures.characters _ c.in-Some-strip.ensures.bytes), e)))

pub returns-in-None : goal.returns-in-None
returns-in-None c missing opens = let h = begins_some _ _ c.requires in absurd (c.in-None.ensures.none h.0 h.1)
