use Rattle.std.proofs.Common.{refl}
use Rattle.marker_nodes.proofs.PairLaws.{versions_listed, texts_listed, truths_listed}
use Rattle.marker_nodes.proofs.side.Sides.pairs.Goals as goal

pub returns-in-Version : goal.returns-in-Version
returns-in-Version c = let h = versions_listed c.args.self.now _ c.in-Version.field-0 c.in-Version.left c.in-Version.right c.in-Version.is c.pairs.ensures.pieces in record { count = h.count; value = h.value; inhabited = h.inhabited }

pub returns-in-Text : goal.returns-in-Text
returns-in-Text c = let h = texts_listed c.args.self.now _ c.in-Text.field-0 c.in-Text.left c.in-Text.right c.in-Text.is c.pairs-in-Text.ensures.pieces in record { count = h.count; value = h.value; inhabited = h.inhabited }

pub returns-in-Truth : goal.returns-in-Truth
returns-in-Truth c = let h = truths_listed c.args.self.now _ c.in-Truth.field-0 c.in-Truth.high c.in-Truth.low c.in-Truth.is refl in record { count = h.count; value = h.value; inhabited = h.inhabited }
