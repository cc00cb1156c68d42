use Rattle.marker_texts.proofs.SlotLaws.{found}
use Rattle.marker_texts.proofs.known_texts.KnownTexts.find.Goals as goal

pub returns-then-eq : goal.returns-then-eq
returns-then-eq c = found c.args.self.now.slots.items c.in_ok-at.at c.index.result.now c.in_ok-known.known.now c.as_str.result.now c.args.text.now c.eq.result c.in_ok-at.ensures c.index.ensures c.in_ok-known.ensures.value c.as_str.ensures.value c.eq.ensures c.if-eq.true
