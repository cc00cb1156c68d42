use Rattle.std.proofs.Common.{◌≡◌, ℕ, List, [], ◌∷◌, length, false, refl, sym, Some, None, arith}
use Rattle.std.proofs.lemmas.Bool.{eqb-true}
use Rattle.pep440_version.specs.Grammar.{starred_parts}
use Rattle.pep440_version.specs.Reading.{is_star, lower}
use Rattle.pep440_version.proofs.Cases.{pattern-none, pattern-plain, pattern-star}
use Rattle.pep440_version.proofs.Heads.{suffixes-empty}
use Rattle.pep440_version.proofs.read.pattern.Goals as goal

pub returns-in_default : goal.returns-in_default
returns-in_default c =
    let head = rw c.in_default.is at c.in_ok-epoch.ensures.value in
    pattern-none c.args.text.now c.after_mark.result.now c.after_mark.ensures head

no_star : (t : List ℕ) → length t ≡ 0 → is_star (lower t) ≡ false
no_star [] h = refl
no_star (b ∷ t) h = absurd (omega arith)

pub returns-then-is_empty : goal.returns-then-is_empty
returns-then-is_empty c =
    let head = rw c.in-Some.is at c.in_ok-epoch.ensures.value in
    let empty = eqb-true _ 0 (sym c.if-is_empty.ensures) in
    rw c.released.ensures (pattern-plain c.args.text.now c.after_mark.result.now _ _ _ c.after_mark.ensures head (no_star _ empty) (Some (starred_parts _ _)) (suffixes-empty _ _ _ empty))

pub returns-then-is_star : goal.returns-then-is_star
returns-then-is_star c =
    let head = rw c.in-Some.is at c.in_ok-epoch.ensures.value in
    rw c.released-then-is_star.ensures (pattern-star c.args.text.now c.after_mark.result.now _ _ _ c.after_mark.ensures head (sym c.if-is_star.ensures))

pub returns-in-Some-2 : goal.returns-in-Some-2
returns-in-Some-2 c =
    let head = rw c.in-Some.is at c.in_ok-epoch.ensures.value in
    let read = rw c.in-Some-2.is at c.in_ok-version.ensures in
    pattern-plain c.args.text.now c.after_mark.result.now _ _ _ c.after_mark.ensures head (sym c.if-is_star.ensures) (Some c.in-Some-2.version) read

pub returns-in-None : goal.returns-in-None
returns-in-None c =
    let head = rw c.in-Some.is at c.in_ok-epoch.ensures.value in
    let read = rw c.in-None.is at c.in_ok-version.ensures in
    pattern-plain c.args.text.now c.after_mark.result.now _ _ _ c.after_mark.ensures head (sym c.if-is_star.ensures) None read
