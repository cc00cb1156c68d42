-- The order of version specifiers (this project's own, over the order of versions of PEP 440).
use Rattle.std.specs.Prelude.{◌≡◌, ℕ, length}
use Rattle.std.specs.Ordering.{nat_cmp, on, then_cmp}
use Rattle.std.specs.declared.cmp.Ordering.{Ordering}
use Rattle.pep440_version.specs.Order.{IsSameVersion, version_cmp}
use Rattle.pep440_specifier.specs.declared.operator.Operator.{Operator}
use Rattle.pep440_specifier.specs.declared.operator.Operator.TheVariants.{EqualStar, NotEqualStar, TildeEqual}
use Rattle.pep440_specifier.specs.Operator.{rank}
use Rattle.pep440_specifier.specs.Specifier.{Specifier}

-- how many release numbers there are, if their number matters: for a star and `~=`
abbrev pub counted_of : Operator → ℕ → ℕ
counted_of EqualStar n = n
counted_of NotEqualStar n = n
counted_of TildeEqual n = n
counted_of operator n = 0

abbrev pub number_count : Specifier → ℕ
number_count s = counted_of s.operator (length s.version.release)

-- the operator, then the version, then for a star and `~=` the number of release numbers
abbrev pub specifier_cmp : Specifier → Specifier → Ordering
specifier_cmp = then_cmp (on (λ (s : Specifier). rank s.operator) nat_cmp)
    (then_cmp (on (λ (s : Specifier). s.version) version_cmp)
    (on number_count nat_cmp))

-- the same specifier: the same operator and version, and for a star and `~=` as many release
-- numbers
pub record IsSameSpecifier (s t : Specifier) : Type 0 where
  pub operator : s.operator ≡ t.operator
  pub version : IsSameVersion s.version t.version
  pub numbers : number_count s ≡ number_count t
