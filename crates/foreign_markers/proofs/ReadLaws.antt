-- Environments that were read, and the values that they were read from.
use Rattle.std.proofs.Common.{◌≡◌, ◌∙◌, List, ℕ, Option, Some, sym, subst}
use Rattle.std.proofs.Math.Logic.{∥∥₁_elim}
use Rattle.marker_words.specs.declared.key.TextVariable.TheVariants as texts
use Rattle.marker_words.specs.declared.key.MarkerValueVersion.TheVariants as versions
use Rattle.marker_environment.specs.declared.environment.MarkerEnvironment.{MarkerEnvironment}
use Rattle.marker_environment.specs.Environment.{text_of, values_of, version_of}
use Rattle.marker_environment.specs.Written.{Says}
use Rattle.foreign_calls.specs.declared.environment.Environment.{Environment}
use Rattle.foreign_calls.specs.Environment.{AreGiven, given_text, given_version}
use Rattle.foreign_markers.specs.declared.read.ReadEnvironment.{ReadEnvironment}
use Rattle.foreign_markers.specs.Last.{IsLast}
use Rattle.foreign_markers.specs.Read.{AreSaid, HasTexts, HasVersionTexts}

-- the versions that were read are what their texts say
said_by : {e : Environment} (known : MarkerEnvironment) → AreGiven e (values_of known) → AreSaid known
said_by known p = λ key. subst (λ (text : List ℕ). Says text (version_of known key)) (sym (p.versions key).string) (p.versions key)

pub are_said : (e : Environment) (known : MarkerEnvironment) → AreGiven e (values_of known) → ∥ AreSaid known ∥₁
are_said e known p = ∣ said_by known p ∣₁

-- the same texts give the same values
given_by : (e : Environment) (known : MarkerEnvironment) → HasTexts e known → HasVersionTexts e known → AreSaid known → AreGiven e (values_of known)
given_by e known p q said = record { texts = p; versions = λ key. subst (λ (text : List ℕ). Says text (version_of known key)) (q key) (said key) }

pub given_again : (e : Environment) (known : MarkerEnvironment) → HasTexts e known → HasVersionTexts e known → ∥ AreSaid known ∥₁ → ∥ AreGiven e (values_of known) ∥₁
given_again e known p q said = ∥∥₁_elim said squash₁ (λ s. ∣ given_by e known p q s ∣₁)

same : {a b : ReadEnvironment} → Some a ≡ Some b → a ≡ b
same e = cc

-- what was read last is this
pub last_is : (e : Environment) (last : Option ReadEnvironment) (read : ReadEnvironment) → last ≡ Some read → IsLast e last → ∥ AreGiven e (values_of read.environment) ∥₁
last_is e last read is p = subst (λ (r : ReadEnvironment). ∥ AreGiven e (values_of r.environment) ∥₁) (same (sym p.is_there ∙ is)) p.given

pub all_texts : (e : Environment) (known : MarkerEnvironment) → text_of known texts.ImplementationName ≡ given_text e texts.ImplementationName → text_of known texts.OsName ≡ given_text e texts.OsName
    → text_of known texts.PlatformMachine ≡ given_text e texts.PlatformMachine → text_of known texts.PlatformPythonImplementation ≡ given_text e texts.PlatformPythonImplementation
    → text_of known texts.PlatformRelease ≡ given_text e texts.PlatformRelease → text_of known texts.PlatformSystem ≡ given_text e texts.PlatformSystem
    → text_of known texts.PlatformVersion ≡ given_text e texts.PlatformVersion → text_of known texts.SysPlatform ≡ given_text e texts.SysPlatform → HasTexts e known
all_texts e known name os machine python release system version platform texts.ImplementationName = name
all_texts e known name os machine python release system version platform texts.OsName = os
all_texts e known name os machine python release system version platform texts.PlatformMachine = machine
all_texts e known name os machine python release system version platform texts.PlatformPythonImplementation = python
all_texts e known name os machine python release system version platform texts.PlatformRelease = release
all_texts e known name os machine python release system version platform texts.PlatformSystem = system
all_texts e known name os machine python release system version platform texts.PlatformVersion = version
all_texts e known name os machine python release system version platform texts.SysPlatform = platform

pub all_versions : (e : Environment) (known : MarkerEnvironment) → (version_of known versions.ImplementationVersion).string ≡ given_version e versions.ImplementationVersion
    → (version_of known versions.PythonFullVersion).string ≡ given_version e versions.PythonFullVersion → (version_of known versions.PythonVersion).string ≡ given_version e versions.PythonVersion → HasVersionTexts e known
all_versions e known implementation full python versions.ImplementationVersion = implementation
all_versions e known implementation full python versions.PythonFullVersion = full
all_versions e known implementation full python versions.PythonVersion = python

pub ruleset texts_compared = (all_texts, all_versions)
