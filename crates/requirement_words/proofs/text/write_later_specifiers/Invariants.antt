use Rattle.std.proofs.Common.{take}
use Rattle.std.specs.Fmt.{HasWritten, IsPlainFormatter}
use Rattle.requirement_words.specs.Text.{later_specifiers}
use Rattle.requirement_words.proofs.text.write_later_specifiers.Given as goal

abbrev pub invariant-loop-specifier : goal.invariant-loop-specifier
invariant-loop-specifier g l =
    IsPlainFormatter l.initial.f → HasWritten g.W.Write.write_str_gives l.initial.f (later_specifiers (take l.specifier-index l.specifiers)) l.f
