-- The order of specifiers is total, and specifiers that tie have one hash. The laws of the
-- comparisons cite these.
use Rattle.std.proofs.Common.{◌≡◌, refl}
use Rattle.std.specs.Prelude.{◌++◌, pos}
use Rattle.std.specs.Ordering.{eq_by_cmp, ordering_then}
use Rattle.std.specs.Cmp.{Equal-is, IsTotalOrder, nat_cmp_total, on_total, then_total}
use Rattle.std.specs.FinMap.{nat_cmp-IsAntisymmetric}
use Rattle.std.specs.declared.cmp.Ordering.{Ordering}
use Rattle.std.specs.declared.cmp.Ordering.TheVariants.{Less, Equal, Greater}
use Rattle.std.specs.Hash as fed
use Rattle.std.specs.Hash.{Alike}
use Rattle.pep440_version.specs.Order.{version_cmp}
use Rattle.pep440_version.specs.OrderLaws.{version_alike, version_total}
use Rattle.pep440_specifier.specs.HashInput.{specifier_writes}
use Rattle.pep440_specifier.specs.Operator.{rank}
use Rattle.pep440_specifier.specs.Order.{number_count, specifier_cmp}
use Rattle.pep440_specifier.specs.Specifier.{Specifier}

pub specifier_total : IsTotalOrder specifier_cmp
specifier_total =
    then_total (on_total (λ (s : Specifier). rank s.operator) nat_cmp_total)
    (then_total (on_total (λ (s : Specifier). s.version) version_total)
    (on_total number_count nat_cmp_total))

then_first : (r s : Ordering) → ordering_then r s ≡ Equal → r ≡ Equal
then_first Less s e = cc e
then_first Equal s e = refl
then_first Greater s e = cc e

then_second : (r s : Ordering) → ordering_then r s ≡ Equal → s ≡ Equal
then_second Less s e = cc e
then_second Equal s e = e
then_second Greater s e = cc e

pub specifier_alike : Alike (eq_by_cmp specifier_cmp) specifier_writes
specifier_alike = record {
  fed = λ x y h.
      let tie = (Equal-is (specifier_cmp x y)).0 h in
      let rest = then_second _ _ tie in
      let operator : rank x.operator ≡ rank y.operator =
      nat_cmp-IsAntisymmetric _ _ (then_first _ _ tie) in
      let version = version_alike.fed x.version y.version
      ((Equal-is (version_cmp x.version y.version)).1 (then_first _ _ rest)) in
      let count : number_count x ≡ number_count y =
      nat_cmp-IsAntisymmetric _ _ (then_second _ _ rest) in
      λ i. fed.isize (pos (operator i)) ++ (version i ++ fed.usize (count i));
}
