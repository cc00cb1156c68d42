-- A comparison after white space is one before it.
use Rattle.std.proofs.Common.{◌≡◌, ℕ, List, sym, ap, ◌∙◌, arith}
use Rattle.pep508_text.specs.Run.{after_space}
use Rattle.pep508_text.specs.declared.classes.Class.TheVariants.{Space}
use Rattle.pep508_text.proofs.RunLaws.{after_run-after_run}
use Rattle.marker_words.specs.declared.operator.MarkerOperator.{MarkerOperator}
use Rattle.marker_words.specs.Lexical.{Value, Sides}
use Rattle.marker_words.proofs.LexicalLaws.{sides_at, sides_from}
use Rattle.marker_parts.specs.Comparison.{Meaning, Compared, compared}

-- two texts with only white space between them
moved : (i t : List ℕ) {o : List ℕ} {l r : Value} {p : MarkerOperator} → after_space i ≡ after_space t → Sides i o l p r → Sides t o l p r
moved i t h1 h2 = grind (arith, sides_at, sides_from)

same_space : (i t : List ℕ) → t ≡ after_space i → after_space t ≡ after_space i
same_space i t e = ap after_space e ∙ after_run-after_run Space i

pub compared_behind : {i t o : List ℕ} {m : Meaning} → t ≡ after_space i → Compared t o m → Compared i o m
compared_behind {i} {t} e (compared d means) = compared (moved t i (same_space i t e) d) means

pub compared_before : {i t o : List ℕ} {m : Meaning} → t ≡ after_space i → Compared i o m → Compared t o m
compared_before {i} {t} e (compared d means) = compared (moved i t (sym (same_space i t e)) d) means
