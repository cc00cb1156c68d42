use Rattle.std.proofs.Common.{inl}
use Rattle.marker_texts.proofs.SlotLaws.{added_has}
use Rattle.marker_texts.proofs.known_texts.KnownTexts.add.Goals as goal

pub returns-in-Some : goal.returns-in-Some
returns-in-Some c = added_has c.add_slots.new.self.slots.items c.in-Some.at (record { text = c.in_ok-copy.copy; id = c.args.id }) c.args.self.now.slots.items c.args.text.now c.in_ok-copy.ensures.ok c.add_slots.ensures

pub returns-in_default : goal.returns-in_default
returns-in_default c other found h = inl (c.add_slots.ensures other found h)
