use Rattle.std.proofs.Common.{ℕ, sym, subst}
use Rattle.pep508_text.specs.Suffix.{span_len}
use Rattle.marker_words.specs.Fault.{message_of, NoneOpen, IsMarkerFault}
use Rattle.marker_words.proofs.FaultLaws.{fault_told}
use Rattle.marker_words.proofs.fault.Fault.start.Goals as goal

pub returns-clause-told : goal.returns-clause-told
returns-clause-told c f =
    subst (λ (n : ℕ). IsMarkerFault NoneOpen c.args.text.now n (span_len c.args.self.now.place) (message_of c.args.self.now.kind c.args.self.now.place.piece.now)) (sym c.start.ensures.value) (fault_told c.args.text.now c.args.self.now f)
