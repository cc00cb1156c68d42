-- When specifiers are equal in the order: each part is compared on its own.
use Rattle.std.proofs.Common.{◌≡◌, ◌==◌, ℕ, true, ap, arith}
use Rattle.std.specs.FinMap.{nat_cmp-IsAntisymmetric}
use Rattle.pep440_version.specs.OrderLaws.{same-tied, tied-same}
use Rattle.pep440_specifier.specs.declared.operator.Operator.{Operator}
use Rattle.pep440_specifier.specs.declared.operator.Operator.TheVariants as op
use Rattle.pep440_specifier.specs.Operator.{rank}
use Rattle.pep440_specifier.specs.Order.{IsSameSpecifier, number_count, specifier_cmp}
use Rattle.pep440_specifier.specs.Specifier.{Specifier}
use Rattle.std.proofs.lemmas.Bool.Decides.{nat_tests}
use Rattle.std.specs.Ordering.{is_eq, nat_cmp, ordering_then}
use Rattle.std.specs.declared.cmp.Ordering.{Ordering}
use Rattle.std.specs.declared.cmp.Ordering.TheVariants.{Equal}

pub tied_next : (r s : Ordering) → is_eq r ≡ true → is_eq (ordering_then r s) ≡ is_eq s
tied_next r s h1 = grind arith

pub numbers_tie : (m n : ℕ) → (m == n) ≡ is_eq (nat_cmp m n)
numbers_tie m n = grind (arith, nat_tests)

rank_alike : (a b : Operator) → rank a ≡ rank b → a ≡ b
rank_alike a b h1 = grind arith

then_first : (r s : Ordering) → ordering_then r s ≡ Equal → r ≡ Equal
then_first r s h1 = grind arith

then_second : (r s : Ordering) → ordering_then r s ≡ Equal → s ≡ Equal
then_second r s h1 = grind arith

pub tied_same : (s t : Specifier) → specifier_cmp s t ≡ Equal → IsSameSpecifier s t
tied_same s t tie =
    let rest = then_second _ _ tie in
    record {
      operator = rank_alike _ _ (nat_cmp-IsAntisymmetric _ _ (then_first _ _ tie));
      version = tied-same _ _ (then_first _ _ rest);
      numbers = nat_cmp-IsAntisymmetric _ _ (then_second _ _ rest);
    }

numbers_tied : (m n : ℕ) → m ≡ n → nat_cmp m n ≡ Equal
numbers_tied m n e = grind (arith, nat_tests, e)

pub same_tied : (s t : Specifier) → IsSameSpecifier s t → specifier_cmp s t ≡ Equal
same_tied s t same =
    let operator = numbers_tied (rank s.operator) (rank t.operator) (ap rank same.operator) in
    let version = same-tied s.version t.version same.version in
    let numbers = numbers_tied (number_count s) (number_count t) same.numbers in
    λ i. ordering_then (operator i) (ordering_then (version i) (numbers i))
