use Rattle.std.proofs.Common.{take}
use Rattle.std.specs.Fmt.{HasWritten, IsPlainFormatter}
use Rattle.pep440_specifier.specs.Set.{later_text}
use Rattle.pep440_specifier.proofs.specifiers.write_later.Given as goal

abbrev pub invariant-loop-specifier : goal.invariant-loop-specifier
invariant-loop-specifier g l =
    IsPlainFormatter l.initial.f → HasWritten g.W.Write.write_str_gives l.initial.f (later_text (take l.specifier-index l.specifiers)) l.f
