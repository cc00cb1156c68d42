use Rattle.std.proofs.Common.{◌∙◌, subst, sym, refl}
use Rattle.std.specs.Str.Parse.{IsNumeral}
use Rattle.std.proofs.lemmas.Bool.{false≢true}
use Rattle.marker_lines.proofs.WordLaws.{numeral_from, numeral_to, cell_read}
use Rattle.marker_lines.proofs.line.read_cell.Goals as goal

pub returns-then-not-is_number : goal.returns-then-not-is_number
returns-then-not-is_number c = λ n. false≢true (c.if-not-is_number.ensures.1 (numeral_to c.as_bytes.result.now (subst (IsNumeral 10) (sym c.as_bytes.ensures.value) n)))

pub returns : goal.returns
returns c =
    let n = subst (IsNumeral 10) c.as_bytes.ensures.value (numeral_from c.as_bytes.result.now (c.if-not-is_number.ensures.0 refl)) in
    record { digits = n; number = c.unwrap_or.ensures ∙ cell_read c.args.word.now c.parse.result c.parse.ensures.value.0 n }
