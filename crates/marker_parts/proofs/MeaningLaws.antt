-- What two sides and an operator come to, row by row.
use Rattle.std.proofs.Common.{◌≡◌, ℕ, List, [], ◌∷◌, ◌++◌, append_assoc, sym, ap, ◌∙◌, subst}
use Rattle.pep508_names.specs.Name.{NormalizesTo, IsName}
use Rattle.marker_words.specs.declared.key.MarkerValueString.{MarkerValueString}
use Rattle.marker_words.specs.declared.key.MarkerValueVersion.{MarkerValueVersion}
use Rattle.marker_words.specs.declared.operator.MarkerOperator.{MarkerOperator}
use Rattle.marker_words.specs.Operator.{turned}
use Rattle.marker_words.specs.Lexical.{Value, version_key, text_key, quoted}
use Rattle.marker_words.specs.Lexical as lexical
use Rattle.pep508_errors.specs.declared.warning.MarkerWarningKind.{MarkerWarningKind}
use Rattle.pep508_errors.specs.declared.warning.MarkerWarningKind.TheVariants.{ExtraInvalidComparison, MarkerMarkerComparison, Pep440Error, StringStringComparison}
use Rattle.marker_parts.specs.Expression.{name, arbitrary, Test}
use Rattle.marker_parts.specs.VersionComparison.{version_operator, Asks, AsksBefore, refused_kinds}
use Rattle.marker_parts.specs.Comparison.{Meaning, dropped_with, key_kinds, text_meaning, IsExtra, named, unnamed, Means, key_and_text, text_and_key, extra_and_text, text_and_extra, two_keys, key_and_extra, extra_and_key, two_extras, two_texts, MeansExtra, kept_with, MeansBehind, asks, asks_nothing, MeansBefore, asks_before, asks_nothing_before, version_and_text, text_and_version, version_and_key, version_and_extra, two_versions, key_and_version, extra_and_version}

abbrev Kinds : Type 0
Kinds = List MarkerWarningKind

-- the fourth argument by an equation
means_at : {left right : Value} {operator : MarkerOperator} {m n : Meaning} → m ≡ n → Means left operator right n → Means left operator right m
means_at {left} {right} {operator} e h = subst (λ (x : Meaning). Means left operator right x) (sym e) h

pub key_then_text : {key : MarkerValueString} {operator : MarkerOperator} {t : List ℕ} {m : Meaning} → m ≡ text_meaning key operator t → Means (text_key key) operator (quoted t) m
key_then_text e = means_at e key_and_text

pub text_then_key : {key : MarkerValueString} {operator : MarkerOperator} {t : List ℕ} {m : Meaning} → m ≡ text_meaning key (turned operator) t → Means (quoted t) operator (text_key key) m
text_then_key e = means_at e text_and_key

pub extra_then_text : {operator : MarkerOperator} {t : List ℕ} {m : Meaning} → MeansExtra t operator m → Means lexical.extra operator (quoted t) m
extra_then_text h = means_at h.means (extra_and_text h.is_extra)

pub text_then_extra : {operator : MarkerOperator} {t : List ℕ} {m : Meaning} → MeansExtra t operator m → Means (quoted t) operator lexical.extra m
text_then_extra h = means_at h.means (text_and_extra h.is_extra)

pub key_then_key : {left right : MarkerValueString} {operator : MarkerOperator} {first all : Kinds} {m : Meaning} → first ≡ key_kinds left → all ≡ first ++ key_kinds right → m ≡ dropped_with (all ++ (MarkerMarkerComparison ∷ [])) → Means (text_key left) operator (text_key right) m
key_then_key {left} {right} {operator} {first} {all} e f g =
    means_at (g ∙ ap (λ (k : Kinds). dropped_with (k ++ (MarkerMarkerComparison ∷ []))) (f ∙ ap (λ (k : Kinds). k ++ key_kinds right) e) ∙ ap dropped_with (append_assoc (key_kinds left) (key_kinds right) (MarkerMarkerComparison ∷ []))) two_keys

pub key_then_extra : {key : MarkerValueString} {operator : MarkerOperator} {m : Meaning} → m ≡ dropped_with (key_kinds key ++ (MarkerMarkerComparison ∷ [])) → Means (text_key key) operator lexical.extra m
key_then_extra e = means_at e key_and_extra

pub extra_then_key : {key : MarkerValueString} {operator : MarkerOperator} {m : Meaning} → m ≡ dropped_with (key_kinds key ++ (ExtraInvalidComparison ∷ [])) → Means lexical.extra operator (text_key key) m
extra_then_key e = means_at e extra_and_key

pub extra_then_extra : {operator : MarkerOperator} {all : Kinds} {m : Meaning} → all ≡ [] → m ≡ dropped_with (all ++ (ExtraInvalidComparison ∷ [])) → Means lexical.extra operator lexical.extra m
extra_then_extra e g = means_at (g ∙ ap (λ (k : Kinds). dropped_with (k ++ (ExtraInvalidComparison ∷ []))) e) two_extras

pub text_then_text : {s t : List ℕ} {operator : MarkerOperator} {all : Kinds} {m : Meaning} → all ≡ [] → m ≡ dropped_with (all ++ (StringStringComparison ∷ [])) → Means (quoted s) operator (quoted t) m
text_then_text e g = means_at (g ∙ ap (λ (k : Kinds). dropped_with (k ++ (StringStringComparison ∷ []))) e) two_texts

pub version_then_text : {key : MarkerValueVersion} {operator : MarkerOperator} {t : List ℕ} {m : Meaning} → MeansBehind key operator t m → Means (version_key key) operator (quoted t) m
version_then_text h = version_and_text h

pub text_then_version : {key : MarkerValueVersion} {operator : MarkerOperator} {t : List ℕ} {m : Meaning} → MeansBefore key (turned operator) t m → Means (quoted t) operator (version_key key) m
text_then_version h = text_and_version h

pub version_then_key : {left : MarkerValueVersion} {right : MarkerValueString} {operator : MarkerOperator} {m : Meaning} → m ≡ dropped_with (key_kinds right ++ (Pep440Error ∷ [])) → Means (version_key left) operator (text_key right) m
version_then_key e = means_at e version_and_key

pub version_then_extra : {key : MarkerValueVersion} {operator : MarkerOperator} {all : Kinds} {m : Meaning} → all ≡ [] → m ≡ dropped_with (all ++ (Pep440Error ∷ [])) → Means (version_key key) operator lexical.extra m
version_then_extra e g = means_at (g ∙ ap (λ (k : Kinds). dropped_with (k ++ (Pep440Error ∷ []))) e) version_and_extra

pub version_then_version : {left right : MarkerValueVersion} {operator : MarkerOperator} {all : Kinds} {m : Meaning} → all ≡ [] → m ≡ dropped_with (all ++ (Pep440Error ∷ [])) → Means (version_key left) operator (version_key right) m
version_then_version e g = means_at (g ∙ ap (λ (k : Kinds). dropped_with (k ++ (Pep440Error ∷ []))) e) two_versions

pub key_then_version : {left : MarkerValueString} {right : MarkerValueVersion} {operator : MarkerOperator} {m : Meaning} → m ≡ dropped_with (key_kinds left ++ (MarkerMarkerComparison ∷ [])) → Means (text_key left) operator (version_key right) m
key_then_version e = means_at e key_and_version

pub extra_then_version : {key : MarkerValueVersion} {operator : MarkerOperator} {all : Kinds} {m : Meaning} → all ≡ [] → m ≡ dropped_with (all ++ (ExtraInvalidComparison ∷ [])) → Means lexical.extra operator (version_key key) m
extra_then_version e g = means_at (g ∙ ap (λ (k : Kinds). dropped_with (k ++ (ExtraInvalidComparison ∷ []))) e) extra_and_version

pub asked_behind : {key : MarkerValueVersion} {operator : MarkerOperator} {t : List ℕ} {test : Test} {m : Meaning} → m ≡ kept_with test [] → Asks key t (version_operator operator) test → MeansBehind key operator t m
asked_behind {key} {operator} {t} e h = subst (λ (x : Meaning). MeansBehind key operator t x) (sym e) (asks h)

pub nothing_behind : {key : MarkerValueVersion} {operator : MarkerOperator} {t : List ℕ} {m : Meaning} → m ≡ dropped_with (refused_kinds (version_operator operator)) → ((test : Test) → ¬ Asks key t (version_operator operator) test) → MeansBehind key operator t m
nothing_behind {key} {operator} {t} e h = subst (λ (x : Meaning). MeansBehind key operator t x) (sym e) (asks_nothing h)

pub asked_before : {key : MarkerValueVersion} {operator : MarkerOperator} {t : List ℕ} {test : Test} {m : Meaning} → m ≡ kept_with test [] → AsksBefore key t (version_operator operator) test → MeansBefore key operator t m
asked_before {key} {operator} {t} e h = subst (λ (x : Meaning). MeansBefore key operator t x) (sym e) (asks_before h)

pub nothing_before : {key : MarkerValueVersion} {operator : MarkerOperator} {t : List ℕ} {m : Meaning} → m ≡ dropped_with (Pep440Error ∷ []) → ((test : Test) → ¬ AsksBefore key t (version_operator operator) test) → MeansBefore key operator t m
nothing_before {key} {operator} {t} e h = subst (λ (x : Meaning). MeansBefore key operator t x) (sym e) (asks_nothing_before h)

pub extra_by_name : {t n : List ℕ} → NormalizesTo t n → IsExtra t (name n) []
extra_by_name h = named h

pub extra_by_text : {t u : List ℕ} → u ≡ t → ¬ IsName t → IsExtra t (arbitrary u) (ExtraInvalidComparison ∷ [])
extra_by_text {t} e h = subst (λ (x : List ℕ). IsExtra t (arbitrary x) (ExtraInvalidComparison ∷ [])) (sym e) (unnamed h)

-- what two sides of each kind mean
pub ruleset sides_mean = (
  key_then_text,
  text_then_key,
  extra_then_text,
  text_then_extra,
  key_then_key,
  key_then_extra,
  extra_then_key,
  extra_then_extra,
  text_then_text,
  version_then_text,
  text_then_version,
  version_then_key,
  version_then_extra,
  version_then_version,
  key_then_version,
  extra_then_version,
)

-- the meaning of a text after a version key, before one, and with `extra`
pub ruleset meant_behind = (asked_behind, nothing_behind)

pub ruleset meant_before = (asked_before, nothing_before)

pub ruleset extra_of_text = (extra_by_name, extra_by_text)
