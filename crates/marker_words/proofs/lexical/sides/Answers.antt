use Rattle.std.proofs.Common.{ℕ, List}
use Rattle.std.specs.Str.{chars}
use Rattle.std.proofs.lemmas.Result.{err_from_is_err_and}
use Rattle.pep508_text.proofs.SuffixLaws.{suffix_then}
use Rattle.marker_words.specs.declared.operator.MarkerOperator.{MarkerOperator}
use Rattle.marker_words.specs.Lexical.{Value, Sides}
use Rattle.marker_words.proofs.FaultLaws.{fault_of_suffix, on_err}
use Rattle.marker_words.proofs.SideLaws.{no_left, no_operator, no_right, all_sides}
use Rattle.marker_words.proofs.lexical.sides.Goals as goal

pub returns-in_err-left-clause-none : goal.returns-in_err-left-clause-none
returns-in_err-left-clause-none c =
    let nothing : (output : List ℕ) (left right : Value) (operator : MarkerOperator) → Sides (chars c.args.text.now) output left operator right → ⊥ = λ output left right operator s. no_left c.skip_space.ensures.rest c.in_err-left.ensures.none s in
    on_err c.from_residual.result nothing

pub returns-in_err-left-clause-fault : goal.returns-in_err-left-clause-fault
returns-in_err-left-clause-fault c =
    let p = err_from_is_err_and c.from_residual.result c.from_residual.ensures.1 in
    rw (p.1, p.2) (fault_of_suffix c.skip_space.ensures.suffix c.in_err-left.ensures.fault)

pub returns-in_err-operator-clause-none : goal.returns-in_err-operator-clause-none
returns-in_err-operator-clause-none c =
    let nothing : (output : List ℕ) (left right : Value) (operator : MarkerOperator) → Sides (chars c.args.text.now) output left operator right → ⊥ = λ output left right operator s. no_operator c.skip_space.ensures.rest c.in_ok-left.ensures.found c.skip_space-2.ensures.rest c.in_err-operator.ensures.none s in
    on_err c.from_residual-in_err-operator.result nothing

pub returns-in_err-operator-clause-fault : goal.returns-in_err-operator-clause-fault
returns-in_err-operator-clause-fault c =
    let p = err_from_is_err_and c.from_residual-in_err-operator.result c.from_residual-in_err-operator.ensures.1 in
    rw (p.1, p.2) (fault_of_suffix (suffix_then c.skip_space.ensures.suffix (suffix_then c.in_ok-left.ensures.suffix c.skip_space-2.ensures.suffix)) c.in_err-operator.ensures.fault)

pub returns-in_err-right-clause-none : goal.returns-in_err-right-clause-none
returns-in_err-right-clause-none c =
    let nothing : (output : List ℕ) (left right : Value) (operator : MarkerOperator) → Sides (chars c.args.text.now) output left operator right → ⊥ = λ output left right operator s. no_right c.skip_space.ensures.rest c.in_ok-left.ensures.found c.skip_space-2.ensures.rest c.in_ok-operator.ensures.found c.skip_space-3.ensures.rest c.in_err-right.ensures.none s in
    on_err c.from_residual-in_err-right.result nothing

pub returns-in_err-right-clause-fault : goal.returns-in_err-right-clause-fault
returns-in_err-right-clause-fault c =
    let p = err_from_is_err_and c.from_residual-in_err-right.result c.from_residual-in_err-right.ensures.1 in
    rw (p.1, p.2) (fault_of_suffix (suffix_then c.skip_space.ensures.suffix (suffix_then c.in_ok-left.ensures.suffix (suffix_then c.skip_space-2.ensures.suffix (suffix_then c.in_ok-operator.ensures.suffix c.skip_space-3.ensures.suffix)))) c.in_err-right.ensures.fault)

pub returns-clause-found : goal.returns-clause-found
returns-clause-found c = all_sides c.skip_space.ensures.rest c.in_ok-left.ensures.found c.skip_space-2.ensures.rest c.in_ok-operator.ensures.found c.skip_space-3.ensures.rest c.in_ok-right.ensures.found

pub returns-clause-suffix : goal.returns-clause-suffix
returns-clause-suffix c = suffix_then c.skip_space.ensures.suffix (suffix_then c.in_ok-left.ensures.suffix (suffix_then c.skip_space-2.ensures.suffix (suffix_then c.in_ok-operator.ensures.suffix (suffix_then c.skip_space-3.ensures.suffix c.in_ok-right.ensures.suffix))))
