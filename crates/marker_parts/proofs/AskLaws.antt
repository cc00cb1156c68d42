-- A version key, an operator and a text have at most one test.
use Rattle.std.proofs.Common.{◌≡◌, ℕ, Bool, false, List, refl, ap, subst, arith}
use Rattle.pep440_version.specs.Parts.{Parts}
use Rattle.pep440_version.specs.Grammar.{IsVersionText, IsPatternText}
use Rattle.pep440_version.proofs.Patterns.{pattern-again}
use Rattle.pep440_version.proofs.Sound.{some-value}
use Rattle.pep440_specifier.specs.declared.operator.Operator.{Operator}
use Rattle.pep440_specifier.specs.Specifier.{Specifier, Makes}
use Rattle.marker_words.specs.declared.key.MarkerValueVersion.{MarkerValueVersion}
use Rattle.marker_parts.specs.declared.version_operator.VersionOperator.{VersionOperator}
use Rattle.marker_parts.specs.declared.version_operator.VersionOperator.TheVariants.{Compare}
use Rattle.marker_parts.specs.Expression.{Test, version, version_in}
use Rattle.marker_parts.specs.VersionComparison.{Asks, compares, lists, AsksBefore, compares_before}
use Rattle.marker_parts.proofs.VersionListLaws.{version_text_same, version_list_same}

pattern_text_same : (text : List ℕ) {v w : Parts} {star end : Bool} → IsPatternText text v star → IsPatternText text w end → (v ≡ w) × (star ≡ end)
pattern_text_same text h1 h2 = grind (arith, some-value, pattern-again)

-- an operator and a pattern make one specifier
Makes-same : {operator : Operator} {v w : Parts} {star end : Bool} {s t : Specifier} → v ≡ w → star ≡ end → Makes operator v star s → Makes operator w end t → s ≡ t
Makes-same h1 h2 h3 h4 = grind arith

pub Asks-same : {key : MarkerValueVersion} {t : List ℕ} {operator : VersionOperator} {x y : Test} → Asks key t operator x → Asks key t operator y → x ≡ y
Asks-same {key} (compares p m) (compares q n) = let e = pattern_text_same _ p q in ap (version key) (Makes-same e.0 e.1 m n)
Asks-same {key} (lists {negated = negated} l) (lists m) = ap (λ vs. version_in key vs negated) (version_list_same refl l m)

pub AsksBefore-same : {key : MarkerValueVersion} {t : List ℕ} {operator : VersionOperator} {x y : Test} → AsksBefore key t operator x → AsksBefore key t operator y → x ≡ y
AsksBefore-same {key} (compares_before p m) (compares_before q n) = ap (version key) (Makes-same (version_text_same _ p q) refl m n)

pub no_specifier : {key : MarkerValueVersion} {t : List ℕ} {operator : Operator} {v : Parts} {star : Bool} → IsPatternText t v star → ((s : Specifier) → Makes operator v star s → ⊥) → (test : Test) → ¬ Asks key t (Compare operator) test
no_specifier h1 h2 test = grind (arith, pattern_text_same)

pub no_plain_specifier : {key : MarkerValueVersion} {t : List ℕ} {operator : Operator} {v : Parts} → IsVersionText t v → ((s : Specifier) → Makes operator v false s → ⊥) → (test : Test) → ¬ AsksBefore key t (Compare operator) test
no_plain_specifier {operator = operator} p none test (compares_before {s = s} q m) = none s (subst (λ (x : Parts). Makes operator x false s) (version_text_same _ q p) m)
