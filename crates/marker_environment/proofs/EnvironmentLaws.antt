-- What the values of an environment say.
use Rattle.std.proofs.Common.{◌≡◌, ◌≢◌, ℕ, List, string_bytes, arith}
use Rattle.refusal.specs.declared.Refusal.{Refusal}
use Rattle.refusal.specs.declared.Refusal.TheVariants.{OutOfMemory, SegmentAtEnd}
use Rattle.pep440_version.specs.Parts.{Parts}
use Rattle.marker_words.specs.declared.key.VersionVariable.TheVariants as variables
use Rattle.marker_words.specs.declared.key.MarkerValueVersion.{MarkerValueVersion}
use Rattle.marker_words.specs.declared.key.MarkerValueVersion.TheVariants.{PythonVersion}
use Rattle.pep440_version.specs.declared.error.VersionParseError.{VersionParseError}
use Rattle.pep440_version.specs.Grammar.{IsVersionText}
use Rattle.refusal.specs.Refused.{IfFault}
use Rattle.marker_environment.specs.declared.builder.MarkerEnvironmentBuilder.{MarkerEnvironmentBuilder}
use Rattle.marker_environment.specs.Written.{Written}
use Rattle.marker_environment.specs.Environment.{Values, HasSameValues, SetsVersion, version_texts_of, IsRefusal, valuation_of}

pub unread : {old new : Values} {value : Written} (extras : List (List ℕ)) → SetsVersion old new PythonVersion value → valuation_of new extras ≡ valuation_of old extras
unread extras h1 = grind arith

-- the text of a version key is refused as an invalid version, or because memory ran out
pub refused : (b : MarkerEnvironmentBuilder) (key : MarkerValueVersion) (refusal : Refusal VersionParseError)
    → ((v : Parts) → IsVersionText (version_texts_of b key) v → refusal ≡ OutOfMemory) → refusal ≢ SegmentAtEnd
    → IfFault refusal (λ fault. string_bytes fault.text ≡ version_texts_of b key) → IsRefusal b refusal
refused b key refusal h1 h2 h3 = grind arith

-- values that are the same key by key
pub same_values : (v w : Values) → HasSameValues v w → v ≡ w
same_values v w same = λ i. record { text = λ variable. same.0 variable i; version = λ key. same.1 key i }
