use Rattle.std.proofs.Common.{◌≡◌, ℕ, true, false, sym, ap, ◌∙◌, List, ◌∷◌, refl}
use Rattle.std.specs.Str.{chars}
use Rattle.std.proofs.lemmas.Result.{err_from_is_err_and}
use Rattle.pep508_text.proofs.SuffixLaws.{suffix_then}
use Rattle.marker_words.specs.declared.fault.FaultKind.TheVariants.{NotAtEnd, NoSpaceAfterNot}
use Rattle.marker_words.specs.Fault.{first_letter, last_letter}
use Rattle.marker_words.specs.Part.{IsBehindNot}
use Rattle.marker_words.proofs.FaultLaws.{fault_at_end, fault_at_first, fault_of_suffix, on_err}
use Rattle.marker_words.proofs.OperatorLaws.{tail_same, behind_at_end, not_behind, is_behind}
use Rattle.marker_words.proofs.lexical.behind_not.Goals as goal

true_false : true ≡ false → ⊥
true_false e = absurd cc

pub returns-in_default-clause-none : goal.returns-in_default-clause-none
returns-in_default-clause-none c output s = behind_at_end c.in_default.ensures.characters s

pub returns-in_default-clause-fault : goal.returns-in_default-clause-fault
returns-in_default-clause-fault c = fault_at_end NotAtEnd c.at.ensures.kind c.at.ensures.place c.at_end.ensures.piece c.at_end.ensures.left refl

pub returns-then-not-holds-clause-none : goal.returns-then-not-holds-clause-none
returns-then-not-holds-clause-none c output s = not_behind c.in-Some.c c.in-Some.ensures.characters (λ white r e. true_false (sym white ∙ sym c.if-not-holds.ensures)) s

pub returns-then-not-holds-clause-fault : goal.returns-then-not-holds-clause-fault
returns-then-not-holds-clause-fault c =
    fault_at_first c.in-Some.c NoSpaceAfterNot c.utf8.text c.in-Some.ensures.suffix c.in-Some.ensures.bytes c.at-then-not-holds.ensures.kind c.at-then-not-holds.ensures.place c.before-then-not-holds.ensures.piece c.before-then-not-holds.ensures.left (λ e. (c.in-Some.c, e, sym c.if-not-holds.ensures))

pub returns-in_err-rest-clause-none : goal.returns-in_err-rest-clause-none
returns-in_err-rest-clause-none c =
    let nothing : (output : List ℕ) → IsBehindNot (chars c.args.text.now) output → ⊥ = λ output s. not_behind c.in-Some.c c.in-Some.ensures.characters (λ white r e. c.in_err-rest.ensures.none _ (c.skip_space.ensures.rest ∙ e)) s in
    on_err c.from_residual.result nothing

pub returns-in_err-rest-clause-fault : goal.returns-in_err-rest-clause-fault
returns-in_err-rest-clause-fault c =
    let p = err_from_is_err_and c.from_residual.result c.from_residual.ensures.1 in
    rw (p.1, p.2) (fault_of_suffix (suffix_then c.in-Some.ensures.suffix c.skip_space.ensures.suffix) (c.in_err-rest.ensures.fault first_letter))

pub returns-in_err-end-clause-none : goal.returns-in_err-end-clause-none
returns-in_err-end-clause-none c =
    let nothing : (output : List ℕ) → IsBehindNot (chars c.args.text.now) output → ⊥ = λ output s. not_behind c.in-Some.c c.in-Some.ensures.characters (λ white r e. c.in_err-end.ensures.none _ (tail_same _ _ _ _ (sym c.in_ok-rest.ensures.found ∙ c.skip_space.ensures.rest ∙ e))) s in
    on_err c.from_residual-in_err-end.result nothing

pub returns-in_err-end-clause-fault : goal.returns-in_err-end-clause-fault
returns-in_err-end-clause-fault c =
    let p = err_from_is_err_and c.from_residual-in_err-end.result c.from_residual-in_err-end.ensures.1 in
    rw (p.1, p.2) (fault_of_suffix (suffix_then c.in-Some.ensures.suffix (suffix_then c.skip_space.ensures.suffix c.in_ok-rest.ensures.suffix)) (c.in_err-end.ensures.fault last_letter))

pub returns-clause-found : goal.returns-clause-found
returns-clause-found c =
    is_behind c.in-Some.c c.in-Some.ensures.characters (sym c.if-not-holds.ensures) (sym c.skip_space.ensures.rest ∙ c.in_ok-rest.ensures.found ∙ ap (λ (x : List ℕ). 105 ∷ x) c.in_ok-end.ensures.found)

pub returns-clause-suffix : goal.returns-clause-suffix
returns-clause-suffix c = suffix_then c.in-Some.ensures.suffix (suffix_then c.skip_space.ensures.suffix (suffix_then c.in_ok-rest.ensures.suffix c.in_ok-end.ensures.suffix))
