-- The numbers of answers.
use Rattle.std.specs.Prelude.{ℤ, pos}
use Rattle.foreign_calls.specs.declared.answer.Answer.{Answer}
use Rattle.foreign_calls.specs.declared.answer.Answer.TheVariants.{Done, Invalid, OutOfMemory, BufferTooSmall, NotUtf8, NumberTooLarge, InvalidArgument, TooComplex, NoSuchMarker, Shut, NoEnvironment}

abbrev pub code_of : Answer → ℤ
code_of Done = pos 0
code_of Invalid = pos 1
code_of OutOfMemory = pos 2
code_of BufferTooSmall = pos 3
code_of NotUtf8 = pos 4
code_of NumberTooLarge = pos 5
code_of InvalidArgument = pos 6
code_of TooComplex = pos 7
code_of NoSuchMarker = pos 8
code_of Shut = pos 9
code_of NoEnvironment = pos 10

-- the numbers by which the contracts of exports name answers
abbrev pub done : ℤ
done = code_of Done

abbrev pub invalid : ℤ
invalid = code_of Invalid

abbrev pub too_small : ℤ
too_small = code_of BufferTooSmall

abbrev pub not_utf8 : ℤ
not_utf8 = code_of NotUtf8

abbrev pub too_large : ℤ
too_large = code_of NumberTooLarge

abbrev pub shut : ℤ
shut = code_of Shut
