use Rattle.std.proofs.Common.{◌≡◌, ◌-◌, ◌<◌, ◌^◌, Some, length, get_or, inr, refl, sym, ap, ◌∙◌, arith}
use Rattle.pep440_rs.proofs.Raised.{last-read, raised-set}
use Rattle.pep440_rs.proofs.intervals.raise.Goals as goal

pub returns-in_default-clause-refused : goal.returns-in_default-clause-refused
returns-in_default-clause-refused c =
    let fits : get_or c.args.release.now (length c.args.release.now - 1) 0 < 2 ^ 64 = omega (arith, c.type_inv.release (length c.args.release.now - 1)) in
    let over = c.in_default.ensures in
    let most : get_or c.args.release.now (length c.args.release.now - 1) 0 ≡ 18446744073709551615 = omega (arith, over) in
    (tt, inr (refl, last-read c.args.release.now c.requires ∙ ap Some most))

pub returns-clause-value : goal.returns-clause-value
returns-clause-value c =
    let next = c.in-Some.ensures in
    let whole = raised-set c.args.release.now c.requires in
    rw (c.in_ok-numbers.ensures.items, whole, next.1) refl

pub returns-clause-refused : goal.returns-clause-refused
returns-clause-refused c = (
  λ most.
      let next = c.in-Some.ensures in
      let last : Some (get_or c.args.release.now (length c.args.release.now - 1) 0) ≡ Some 18446744073709551615 = sym (last-read c.args.release.now c.requires) ∙ most in
      let small = next.0 in
      let number : get_or c.args.release.now (length c.args.release.now - 1) 0 ≡ 18446744073709551615 = cc in
      omega arith,
  tt,
)
