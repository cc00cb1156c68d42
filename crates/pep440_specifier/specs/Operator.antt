-- The operators of version specifiers (PEP 440, "Version specifiers").
use Rattle.std.specs.Prelude.{ℕ, Bool, true, false, List, Option, None, Some, codes}
use Rattle.pep440_specifier.specs.declared.operator.Operator.{Operator}
use Rattle.pep440_specifier.specs.declared.operator.Operator.TheVariants.{Equal, EqualStar, ExactEqual, NotEqual, NotEqualStar, TildeEqual, LessThan, LessThanEqual, GreaterThan, GreaterThanEqual}

-- whether `.*` follows the version
abbrev pub is_star : Operator → Bool
is_star EqualStar = true
is_star NotEqualStar = true
is_star operator = false

-- whether the version may have a local part
abbrev pub takes_local : Operator → Bool
takes_local Equal = true
takes_local NotEqual = true
takes_local ExactEqual = true
takes_local operator = false

-- the operator before `.*`, if it accepts that
abbrev pub starred : Operator → Option Operator
starred Equal = Some EqualStar
starred NotEqual = Some NotEqualStar
starred operator = None

-- the operator before a pattern: a pattern without a star does not change it
abbrev pub before_pattern : Operator → Bool → Option Operator
before_pattern operator true = starred operator
before_pattern operator false = Some operator

-- the place in this order
abbrev pub rank : Operator → ℕ
rank Equal = 0
rank EqualStar = 1
rank ExactEqual = 2
rank NotEqual = 3
rank NotEqualStar = 4
rank TildeEqual = 5
rank LessThan = 6
rank LessThanEqual = 7
rank GreaterThan = 8
rank GreaterThanEqual = 9

-- the operator that matches the versions that another does not match; `~=` has none
abbrev pub negated : Operator → Option Operator
negated Equal = Some NotEqual
negated EqualStar = Some NotEqualStar
negated ExactEqual = Some NotEqual
negated NotEqual = Some Equal
negated NotEqualStar = Some EqualStar
negated TildeEqual = None
negated LessThan = Some GreaterThanEqual
negated LessThanEqual = Some GreaterThan
negated GreaterThan = Some LessThanEqual
negated GreaterThanEqual = Some LessThan

-- the text before the version
abbrev pub operator_text : Operator → List ℕ
operator_text Equal = codes "=="
operator_text EqualStar = codes "=="
operator_text ExactEqual = codes "==="
operator_text NotEqual = codes "!="
operator_text NotEqualStar = codes "!="
operator_text TildeEqual = codes "~="
operator_text LessThan = codes "<"
operator_text LessThanEqual = codes "<="
operator_text GreaterThan = codes ">"
operator_text GreaterThanEqual = codes ">="
