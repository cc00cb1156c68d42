use Rattle.marker_texts.proofs.SlotLaws.{pushed_has, pushed_within, same_has}
use Rattle.marker_texts.proofs.known_texts.KnownTexts.add_slot.Goals as goal

pub returns-in_err-push : goal.returns-in_err-push
returns-in_err-push c = same_has c.args.self.now.slots.items c.push.new.self.items c.in_err-push.ensures.items

pub invariant_of-self-then-len-self : goal.invariant_of-self-then-len-self
invariant_of-self-then-len-self c = record { within = pushed_within c.args.self.now.slots.items c.push.new.self.items c.in_ok-push.ensures.items c.args.self.now.highest c.args.self.now.within }

pub invariant_of-self-else-len-self : goal.invariant_of-self-else-len-self
invariant_of-self-else-len-self c = record { within = pushed_within c.args.self.now.slots.items c.push.new.self.items c.in_ok-push.ensures.items c.args.self.now.highest c.args.self.now.within }

pub returns-then-len-self : goal.returns-then-len-self
returns-then-len-self c = pushed_has c.args.self.now.slots.items c.push.new.self.items c.in_ok-push.ensures.items

pub returns-else-len-self : goal.returns-else-len-self
returns-else-len-self c = pushed_has c.args.self.now.slots.items c.push.new.self.items c.in_ok-push.ensures.items
