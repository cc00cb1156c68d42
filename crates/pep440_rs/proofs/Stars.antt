-- The specifiers of a range raise nothing.
use Rattle.std.proofs.Common.{◌≡◌, ◌==◌, ◌&&◌, ℕ, ◌+◌, Option, Some, None, List, [], ◌∷◌, subst, arith}
use Rattle.std.specs.Borrow.{Bor}
use Rattle.std.specs.List.{AllByRecursion}
use Rattle.std.specs.Ordering.{eq_by_cmp}
use Rattle.std.specs.declared.ops.Bound.{Bound}
use Rattle.std.specs.declared.ops.Bound.TheVariants.{Included, Excluded, Unbounded}
use Rattle.pep440_version.specs.Order.{version_cmp}
use Rattle.pep440_version.specs.Parts.{Parts, release_only}
use Rattle.pep440_version.specs.Valid.{Fits}
use Rattle.pep440_specifier.specs.Alone.{is_alone}
use Rattle.pep440_specifier.specs.Bounds.{bound_specifiers, minor_of, single_term, specifier_of_parts, star_between, terms_of, two_numbers}
use Rattle.pep440_specifier.specs.Specifier.{Specifier}
use Rattle.pep440_specifier.specs.declared.operator.Operator.TheVariants as operator
use Rattle.pep440_rs.specs.Bounds.{IsAtValid}
use Rattle.pep440_rs.specs.Intervals.{Overflows}
use Rattle.pep440_rs.proofs.Specified.{if-some, next-of, some-alike, star-of}

-- a specifier raises nothing
abbrev pub RaisesNothing : Specifier → Type 0
RaisesNothing s = Overflows s.operator s.version.release → ⊥

none_is_some : {T : Type 0} (x : T) → None ≡ Some x → ⊥
none_is_some x e = cc

-- the second of two numbers is one of a version
second-fits : (r : List ℕ) (m : ℕ × ℕ) → AllByRecursion Fits r → two_numbers r ≡ Some m → Fits m.1
second-fits r m h1 h2 = grind arith

star-raises : (v w : Parts) (m : ℕ × ℕ) → AllByRecursion Fits w.release → star_between v w ≡ Some m → RaisesNothing (specifier_of_parts operator.EqualStar (release_only (m.0 ∷ m.1 ∷ [])))
star-raises v w m all e most =
    let above = (next-of (minor_of v) (minor_of w) m e).1 in
    let numbers = (if-some (w.epoch == 0 && is_alone w) (two_numbers w.release) (m.0, m.1 + 1) above).1 in
    let fits : Fits (m.1 + 1) = second-fits w.release (m.0, m.1 + 1) all numbers in
    let last : m.1 ≡ 18446744073709551615 = some-alike m.1 18446744073709551615 most in
    omega arith

single-raises : (lower upper : Bound (Bor Parts)) (s : Specifier) → IsAtValid upper → single_term lower upper ≡ Some s → RaisesNothing s
single-raises (Included v) (Included w) s h e =
    subst RaisesNothing (some-alike (specifier_of_parts operator.Equal v.now) s (if-some (eq_by_cmp version_cmp v.now w.now) (Some (specifier_of_parts operator.Equal v.now)) s e).1) (none_is_some 18446744073709551615)
single-raises (Included v) (Excluded w) s h e =
    let star = star-of (star_between v.now w.now) s e in
    subst RaisesNothing star.2 (star-raises v.now w.now star.0 h.release star.1)
single-raises (Included v) Unbounded s h e = absurd (none_is_some s e)
single-raises (Excluded v) upper s h e = absurd (none_is_some s e)
single-raises Unbounded upper s h e = absurd (none_is_some s e)

by_single : (o : Option Specifier) (lower upper : Bound (Bor Parts)) → ((s : Specifier) → o ≡ Some s → RaisesNothing s) → AllByRecursion RaisesNothing (terms_of o lower upper)
by_single o lower upper h1 = grind arith

pub range-raises : (lower upper : Bound (Bor Parts)) → IsAtValid upper → AllByRecursion RaisesNothing (bound_specifiers lower upper)
range-raises lower upper h = by_single (single_term lower upper) lower upper (λ s. single-raises lower upper s h)
