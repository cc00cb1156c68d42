-- What markers, environments and extras of another language say.
use Rattle.std.proofs.Common.{◌≡◌, ◌∙◌, ◌<◌, ◌+◌, ℕ, List, [], ◌∷◌, ◌++◌, take, length, get_or, Bool, Option, Some, None, refl, sym, ap, subst, inl, inr}
use denote.Ref.{Bor}
use Rattle.std.proofs.lemmas.List.{map-append, take_more}
use Rattle.std.specs.Prelude.{◌⊎◌, unwrap_or}
use Rattle.refusal.specs.declared.Refusal.{Refusal}
use Rattle.refusal.specs.declared.Refusal.TheVariants as refusals
use Rattle.pep508_errors.specs.declared.error.Pep508Error.{Pep508Error}
use Rattle.pep508_errors.specs.declared.warning.MarkerWarningKind.{MarkerWarningKind}
use Rattle.marker_words.specs.declared.key.TextVariable.{TextVariable}
use Rattle.marker_words.specs.declared.key.TextVariable.TheVariants as texts
use Rattle.marker_words.specs.declared.key.MarkerValueVersion.{MarkerValueVersion}
use Rattle.marker_words.specs.declared.key.MarkerValueVersion.TheVariants as versions
use Rattle.marker_environment.specs.declared.builder.MarkerEnvironmentBuilder.{MarkerEnvironmentBuilder}
use Rattle.marker_environment.specs.Environment.{Values, texts_of, version_texts_of, valuation_of}
use Rattle.marker_environment.specs.Valuation.{Valuation}
use Rattle.marker_environment.specs.Written as written_texts
use Rattle.pep508_names.specs.Name.{NormalizesTo}
use Rattle.marker_graph.specs.declared.tree.MarkerTree.{MarkerTree}
use Rattle.marker_graph.specs.Contents.{Contents, IsHeld, truth}
use Rattle.marker_view.specs.Text.{TellsText}
use Rattle.pep508_markers.specs.Text.{IsTreeOf, IsRefusal}
use Rattle.foreign_calls.specs.declared.answer.Answer.{Answer}
use Rattle.foreign_calls.specs.declared.answer.Answer.TheVariants as answers
use Rattle.foreign_calls.specs.declared.environment.Environment.{Environment}
use Rattle.foreign_calls.specs.Environment.{given_text, given_version, HasSameTexts, AreGiven, Names, no_more, name, bytes_of}
use Rattle.foreign_calls.specs.Marker.{Says, IsTreeFor, IsTextOf, IsNormal, IsValueAt, HasValue, IsTrueIn}
use Rattle.foreign_calls.specs.Refused.{Answers, IsMarkerRefusal}

same_text : (e : Environment) (b : MarkerEnvironmentBuilder) → HasSameTexts e b → (variable : TextVariable) → texts_of b variable ≡ given_text e variable
same_text e b p texts.ImplementationName = p.implementation_name
same_text e b p texts.OsName = p.os_name
same_text e b p texts.PlatformMachine = p.platform_machine
same_text e b p texts.PlatformPythonImplementation = p.platform_python_implementation
same_text e b p texts.PlatformRelease = p.platform_release
same_text e b p texts.PlatformSystem = p.platform_system
same_text e b p texts.PlatformVersion = p.platform_version
same_text e b p texts.SysPlatform = p.sys_platform

same_version : (e : Environment) (b : MarkerEnvironmentBuilder) → HasSameTexts e b → (key : MarkerValueVersion) → version_texts_of b key ≡ given_version e key
same_version e b p versions.ImplementationVersion = p.implementation_version
same_version e b p versions.PythonFullVersion = p.python_full_version
same_version e b p versions.PythonVersion = p.python_version

-- the values of the builder's texts are those that the environment gives
pub given : {e : Environment} {b : MarkerEnvironmentBuilder} {values : Values} → HasSameTexts e b → ((variable : TextVariable) → values.text variable ≡ texts_of b variable)
    → ((key : MarkerValueVersion) → written_texts.Says (version_texts_of b key) (values.version key)) → AreGiven e values
given {e} {b} {values} p same said = record {
  texts = λ variable. same variable ∙ same_text e b p variable;
  versions = λ key. subst (λ (t : List ℕ). written_texts.Says t (values.version key)) (same_version e b p key) (said key);
}

-- the tree of a text has the truth that the text says
pub said : {c : Contents} {text : List ℕ} {t : MarkerTree} {kinds : List MarkerWarningKind} → IsTreeOf c text t kinds → IsHeld c t → IsTreeFor c text t
said {kinds = kinds} p held = record { held = held; says = record { formula = p.formula; kinds = kinds; reads = p.reads; no_overflow = p.no_overflow; means = p.means } }

-- an answer to a text that is refused says why
pub refused : {T E : Type 0} (text : List ℕ) (refusal : Refusal (Pep508Error T E)) (answer : Answer) → IsRefusal text refusal → Answers refusal answer → IsMarkerRefusal text answer
refused text refusals.OutOfMemory answer p (inl e) = record { not_done = λ f. (cc); not_small = λ f. (cc); invalid = λ f. (cc); too_large = λ f. (cc) }
refused text refusals.OutOfMemory answer p (inr e) = record { not_done = λ f. (cc); not_small = λ f. (cc); invalid = λ f. (cc); too_large = λ f. (cc) }
refused text refusals.SegmentAtEnd answer p e = record { not_done = λ f. (cc); not_small = λ f. (cc); invalid = λ f. (cc); too_large = λ f. p }
refused text (refusals.Fault error) answer p e = record { not_done = λ f. (cc); not_small = λ f. (cc); invalid = λ f. p.0; too_large = λ f. (cc) }

-- a text that was told, or none
pub written_text : {f : Valuation → Bool} {text : List ℕ} → TellsText f (Some text) → IsTextOf f text
written_text {text = text} p = record { told = Some text; tells = p; bytes_are = refl }

pub written_nothing : {f : Valuation → Bool} → TellsText f None → IsTextOf f []
written_nothing p = record { told = None; tells = p; bytes_are = refl }

pub normal : {c : Contents} {text bytes : List ℕ} {t : MarkerTree} → IsTreeFor c text t → IsTextOf (truth c t) bytes → IsNormal text bytes
normal {c = c} {t = t} p q = record { truth = truth c t; says = p.says; written = q }

pub value_at : {c : Contents} {text : List ℕ} {t : MarkerTree} {values : Values} {names : List (List ℕ)} {value : Bool} → IsTreeFor c text t → value ≡ truth c t (valuation_of values names) → IsValueAt text values names value
value_at {c = c} {t = t} p q = record { truth = truth c t; says = p.says; value_is = q }

pub true_in : {text given : List ℕ} {e : Environment} {values : Values} {extras names read : List (List ℕ)} {value : Bool}
    → text ≡ given → IsValueAt text values read value → AreGiven e values → Names extras names → read ≡ names → IsTrueIn given e extras value
true_in {values = values} {extras = extras} {read = read} same p q r are = record {
  truth = p.truth;
  says = subst (λ (t : List ℕ). Says t p.truth) same p.says;
  has_value = record { values = values; given = q; names = read; are_names = subst (λ (n : List (List ℕ)). Names extras n) (sym are) r; value_is = p.value_is };
}

-- one more name
names_then : {words names : List (List ℕ)} {word normal : List ℕ} → Names words names → NormalizesTo word normal → Names (words ++ (word ∷ [])) (names ++ (normal ∷ []))
names_then no_more p = name p no_more
names_then (name q n) p = name q (names_then n p)

bytes-push : (words : List (Bor (List ℕ))) (word : Bor (List ℕ)) {more : List (Bor (List ℕ))} → more ≡ words ++ (word ∷ []) → bytes_of more ≡ bytes_of words ++ (word.now ∷ [])
bytes-push words word made = ap bytes_of made ∙ map-append (λ (w : Bor (List ℕ)). w.now) words (word ∷ [])

-- the same for the first words of a list
pub names_more : {names more : List (List ℕ)} {normal : List ℕ} (words : List (Bor (List ℕ))) (i : ℕ) (d : Bor (List ℕ)) → i < length words → Names (bytes_of (take i words)) names → NormalizesTo (get_or words i d).now normal → more ≡ names ++ (normal ∷ []) → Names (bytes_of (take (i + 1) words)) more
names_more {names} {more} {normal} words i d below n p made =
    subst (Names (bytes_of (take (i + 1) words))) (sym made)
    (subst (λ (x : List (List ℕ)). Names x (names ++ (normal ∷ []))) (sym (bytes-push (take i words) (get_or words i d) (take_more words i d below))) (names_then n p))

pub ruleset texts_written = (written_text, written_nothing)
