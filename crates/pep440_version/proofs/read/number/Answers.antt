use Rattle.std.proofs.Common.{◌≡◌, ◌≤◌, true, false, rules, arith, slice_index, sym, ◌∙◌, length}
use Rattle.std.proofs.lemmas.List.{drop_all, take_rest}
use Rattle.std.specs.Char.{is_ascii_digit}
use Rattle.pep440_version.specs.Reading.{starts_digit}
use Rattle.pep440_version.proofs.Readers.{digits-end, digits-next, digits-over, digits-stop}
use Rattle.pep440_version.proofs.read.number.Goals as goal

pub returns-then-not-is_ascii_digit : goal.returns-then-not-is_ascii_digit
returns-then-not-is_ascii_digit c =
    let s : starts_digit c.args.text.now ≡ true = search rules in
    let d : is_ascii_digit (slice_index c.args.text.now c.digits.i) ≡ false = search rules in
    rw (s, take_rest c.args.text.now c.digits.i) (sym (c.digits.invariant ∙ digits-stop c.digits.value c.args.text.now c.digits.i c.digits-test.true d))

pub returns-in_default : goal.returns-in_default
returns-in_default c =
    let s : starts_digit c.args.text.now ≡ true = search rules in
    let d : is_ascii_digit (slice_index c.args.text.now c.digits.i) ≡ true = sym c.if-not-is_ascii_digit.ensures.value in
    rw s (sym (c.digits.invariant ∙ digits-over c.digits.value c.args.text.now c.digits.i c.digits-test.true d c.in_default.ensures.none))

pub digits-preserved : goal.digits-preserved
digits-preserved c =
    let d : is_ascii_digit (slice_index c.args.text.now c.digits.i) ≡ true = sym c.if-not-is_ascii_digit.ensures.value in
    let sum = c.in-Some.ensures.some in
    rw sum.0 (c.digits.invariant ∙ digits-next c.digits.value c.args.text.now c.digits.i c.digits-test.true d (rw sum.0 at sum.1))

pub returns : goal.returns
returns c =
    let s : starts_digit c.args.text.now ≡ true = search rules in
    let all : length c.args.text.now ≤ c.digits.i = omega arith in
    let none = drop_all (length c.args.text.now) c.args.text.now (omega arith) in
    rw (s, take_rest c.args.text.now (length c.args.text.now), none) (sym (c.digits.invariant ∙ digits-end c.digits.value c.args.text.now c.digits.i all))
