-- The first words of lines, and the requests to the machine that they name.
use Rattle.std.specs.Prelude.{◌≢◌, ℕ, List, codes}
use Rattle.std.specs.declared.ops.Bound.{Bound}
use Rattle.pep440_version.specs.Parts.{Parts}
use Rattle.marker_environment.specs.Environment.{Values}
use Rattle.pep508_markers.specs.Machine as Machine
use Rattle.pep508_markers.specs.Machine.{make, ask, print}
use Rattle.marker_lines.specs.declared.word.Word.{Word}
use Rattle.marker_lines.specs.declared.word.Word.TheVariants.{Env, Parse, OnOne, OnTwo, WithNames, WithRange}
use Rattle.marker_lines.specs.declared.word.CellCommand.{CellCommand}
use Rattle.marker_lines.specs.declared.word.CellCommand.TheVariants.{Not, Text}
use Rattle.marker_lines.specs.declared.word.PairCommand.{PairCommand}
use Rattle.marker_lines.specs.declared.word.PairCommand.TheVariants.{And, Or, Equal, Disjoint}
use Rattle.marker_lines.specs.declared.word.NamesCommand.{NamesCommand}
use Rattle.marker_lines.specs.declared.word.NamesCommand.TheVariants.{Extras, Evaluate, Possible}
use Rattle.marker_lines.specs.declared.word.RangeCommand.{RangeCommand}
use Rattle.marker_lines.specs.declared.word.RangeCommand.TheVariants.{Simplify, Complexify}

abbrev pub word_text : Word → List ℕ
word_text Env = codes "env"
word_text Parse = codes "parse"
word_text (OnOne Not) = codes "not"
word_text (OnOne Text) = codes "text"
word_text (OnTwo And) = codes "and"
word_text (OnTwo Or) = codes "or"
word_text (OnTwo Equal) = codes "equal"
word_text (OnTwo Disjoint) = codes "disjoint"
word_text (WithNames Extras) = codes "extras"
word_text (WithNames Evaluate) = codes "eval"
word_text (WithNames Possible) = codes "possible"
word_text (WithRange Simplify) = codes "simplify"
word_text (WithRange Complexify) = codes "complexify"

-- no command has this word
abbrev pub IsNoWord : List ℕ → Type 0
IsNoWord text = (word : Word) → text ≢ word_text word

-- the request on a cell
abbrev pub cell_request : CellCommand → ℕ → Machine.Request
cell_request Not cell = make (Machine.negation cell)
cell_request Text cell = print cell

-- the request on two cells
abbrev pub pair_request : PairCommand → ℕ → ℕ → Machine.Request
pair_request And left right = make (Machine.conjunction left right)
pair_request Or left right = make (Machine.disjunction left right)
pair_request Equal left right = ask (Machine.equal left right)
pair_request Disjoint left right = ask (Machine.disjoint left right)

-- the request on a cell with extras; only an evaluation reads the values of the environment
abbrev pub names_request : NamesCommand → ℕ → Values → List (List ℕ) → Machine.Request
names_request Extras cell values names = make (Machine.simplify_extras cell names)
names_request Evaluate cell values names = ask (Machine.evaluate cell values names)
names_request Possible cell values names = ask (Machine.evaluate_extras cell names)

-- the request on a cell with a range of Python versions
abbrev pub range_request : RangeCommand → ℕ → Bound Parts → Bound Parts → Machine.Request
range_request Simplify cell lower upper = make (Machine.simplify_python cell lower upper)
range_request Complexify cell lower upper = make (Machine.complexify_python cell lower upper)
