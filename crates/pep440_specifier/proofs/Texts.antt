-- A text says at most one specifier.
use Rattle.std.proofs.Common.{◌≡◌, ℕ, Bool, List, sym, ◌∙◌, map, arith}
use Rattle.std.specs.Str.{trim}
use Rattle.pep440_version.specs.Grammar.{IsPatternText}
use Rattle.pep440_version.specs.Parts.{Parts}
use Rattle.pep440_version.proofs.Patterns.{pattern-again}
use Rattle.pep440_version.proofs.Sound.{some-value}
use Rattle.pep440_specifier.specs.declared.operator.Operator.{Operator}
use Rattle.pep440_specifier.specs.Grammar.{IsSpecifierText, specifier}
use Rattle.pep440_specifier.specs.Specifier.{Makes, Specifier}
use Rattle.pep440_specifier.proofs.Operators.{before_run, written_alike}

-- an operator and a pattern make one specifier
one_made : (a b : Operator) (v w : Parts) (x y : Bool) (s t : Specifier) → a ≡ b → v ≡ w → x ≡ y → Makes a v x s → Makes b w y t → s ≡ t
one_made a b v w x y s t h1 h2 h3 h4 h5 = grind arith

one_pattern : (p q : List ℕ) (v w : Parts) (x y : Bool) → p ≡ q → IsPatternText p v x → IsPatternText q w y → (v ≡ w) × (x ≡ y)
one_pattern p q v w x y h1 h2 h3 = grind (arith, pattern-again, map, some-value)

pub one_specifier : (text : List ℕ) (s t : Specifier) → IsSpecifierText text s → IsSpecifierText text t → s ≡ t
one_specifier text s t (specifier {operator = a} {rest = p} {v = v} {star = x} before pattern makes) (specifier {operator = b} {rest = q} {v = w} {star = y} before2 pattern2 makes2) =
    let one = before_run (trim text) a p before in
    let two = before_run (trim text) b q before2 in
    let operator = written_alike a b before.written before2.written (sym one.0 ∙ two.0) in
    let same = one_pattern p q v w x y (sym one.1 ∙ two.1) pattern pattern2 in
    one_made a b v w x y s t operator same.0 same.1 makes makes2
