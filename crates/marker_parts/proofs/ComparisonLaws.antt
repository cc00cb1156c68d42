-- A text begins with at most one comparison, which has one meaning.
use Rattle.std.proofs.Common.{◌≡◌, ℕ, List, [], ◌++◌, refl, ap, arith}
use Rattle.pep508_names.proofs.NameLaws.{normal_form-unique}
use Rattle.marker_words.specs.declared.key.MarkerValueVersion.{MarkerValueVersion}
use Rattle.marker_words.specs.declared.operator.MarkerOperator.{MarkerOperator}
use Rattle.std.specs.Str.{chars}
use Rattle.marker_words.specs.Lexical.{Value, Sides}
use Rattle.marker_words.proofs.LexicalLaws.{sides_same}
use Rattle.pep508_errors.specs.declared.warning.MarkerWarningKind.{MarkerWarningKind}
use Rattle.marker_parts.specs.Expression.{Extra, Test}
use Rattle.marker_parts.specs.Comparison.{Meaning, extra_meaning, IsExtra, Means, key_and_text, text_and_key, extra_and_text, text_and_extra, two_keys, key_and_extra, extra_and_key, two_extras, two_texts, MeansBehind, asks, asks_nothing, MeansBefore, asks_before, asks_nothing_before, version_and_text, text_and_version, version_and_key, version_and_extra, two_versions, key_and_version, extra_and_version, kept_with, Compared, compared}
use Rattle.marker_parts.proofs.AskLaws.{Asks-same, AsksBefore-same}
use Rattle.marker_parts.specs.declared.meaning.Outcome.{Outcome}
use Rattle.marker_parts.specs.Read.{meaning_of, ReadsComparison, HasNoComparison}

-- a text is one extra, and is warned of in one way
IsExtra-same : {t : List ℕ} {x y : Extra} {kinds others : List MarkerWarningKind} → IsExtra t x kinds → IsExtra t y others → (x ≡ y) × (kinds ≡ others)
IsExtra-same h1 h2 = grind (arith, normal_form-unique)

extra_meaning-same : (operator : MarkerOperator) {t : List ℕ} {x y : Extra} {kinds others : List MarkerWarningKind} → IsExtra t x kinds → IsExtra t y others → extra_meaning operator x kinds ≡ extra_meaning operator y others
extra_meaning-same operator g h = let e = IsExtra-same g h in λ i. extra_meaning operator (e.0 i) (e.1 i)

-- a version key has one test with a text, or none
MeansBehind-same : {key : MarkerValueVersion} {operator : MarkerOperator} {t : List ℕ} {m n : Meaning} → MeansBehind key operator t m → MeansBehind key operator t n → m ≡ n
MeansBehind-same (asks g) (asks h) = ap (λ (x : Test). kept_with x []) (Asks-same g h)
MeansBehind-same (asks g) (asks_nothing h) = absurd (h _ g)
MeansBehind-same (asks_nothing g) (asks h) = absurd (g _ h)
MeansBehind-same (asks_nothing g) (asks_nothing h) = refl

MeansBefore-same : {key : MarkerValueVersion} {operator : MarkerOperator} {t : List ℕ} {m n : Meaning} → MeansBefore key operator t m → MeansBefore key operator t n → m ≡ n
MeansBefore-same (asks_before g) (asks_before h) = ap (λ (x : Test). kept_with x []) (AsksBefore-same g h)
MeansBefore-same (asks_before g) (asks_nothing_before h) = absurd (h _ g)
MeansBefore-same (asks_nothing_before g) (asks_before h) = absurd (g _ h)
MeansBefore-same (asks_nothing_before g) (asks_nothing_before h) = refl

-- two sides and an operator come to one meaning
pub Means-same : {left right : Value} {operator : MarkerOperator} {m n : Meaning} → Means left operator right m → Means left operator right n → m ≡ n
Means-same key_and_text key_and_text = refl
Means-same text_and_key text_and_key = refl
Means-same (extra_and_text g) (extra_and_text h) = extra_meaning-same _ g h
Means-same (text_and_extra g) (text_and_extra h) = extra_meaning-same _ g h
Means-same two_keys two_keys = refl
Means-same key_and_extra key_and_extra = refl
Means-same extra_and_key extra_and_key = refl
Means-same two_extras two_extras = refl
Means-same two_texts two_texts = refl
Means-same (version_and_text g) (version_and_text h) = MeansBehind-same g h
Means-same (text_and_version g) (text_and_version h) = MeansBefore-same g h
Means-same version_and_key version_and_key = refl
Means-same version_and_extra version_and_extra = refl
Means-same two_versions two_versions = refl
Means-same key_and_version key_and_version = refl
Means-same extra_and_version extra_and_version = refl

Means-moved : {left left' right right' : Value} {operator operator' : MarkerOperator} {m : Meaning} → left ≡ left' → operator ≡ operator' → right ≡ right' → Means left operator right m → Means left' operator' right' m
Means-moved h1 h2 h3 h4 = grind arith

-- two derivations at one place leave the same and say the same
pub compared_same : {i o p : List ℕ} {m n : Meaning} → Compared i o m → Compared i p n → (o ≡ p) × (m ≡ n)
compared_same (compared d means) (compared d' means') =
    let h = sides_same d d' in
    (h.rest, Means-same (Means-moved h.left h.operator h.right means) means')

-- a text without two sides at its front has no comparison there
pub no_comparison : {i : List ℕ} → ((output : List ℕ) (left right : Value) (operator : MarkerOperator) → Sides i output left operator right → ⊥) → HasNoComparison i
no_comparison h1 = grind arith

-- what is read, from its parts
pub reads_comparison : {text rest : List ℕ} {left right : Value} {operator : MarkerOperator} {old new : List MarkerWarningKind} (outcome : Outcome) → Sides (chars text) (chars rest) left operator right → Means left operator right (meaning_of outcome) → new ≡ old ++ outcome.kinds.items → ReadsComparison text rest outcome.expression old new
reads_comparison outcome d means e = record { meaning = meaning_of outcome; compared = compared d means; test = refl; kinds = e }
