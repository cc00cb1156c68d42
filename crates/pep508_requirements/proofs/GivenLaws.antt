-- The URL of a requirement without a name: what its text denotes, and the value of that.
use Rattle.std.proofs.Common.{◌≡◌, ℕ, Bool, true, false, List, Option, refl}
use Rattle.std.specs.Prelude.{Result, Ok, Err, IfErr}
use Rattle.refusal.specs.declared.Refusal.{Refusal}
use Rattle.refusal.specs.declared.Refusal.TheVariants as refusals
use Rattle.refusal.specs.Refused.{IfFault}
use Rattle.pep508_errors.specs.declared.surroundings.Surroundings.{Surroundings}
use Rattle.pep508_urls.specs.Meaning.{Meaning, HasMeaning, StandsFor, folder_of}
use Rattle.pep508_urls.specs.Unnamed.{EachMayOverflow, MakesNamed, NamesNone}
use Rattle.pep508_urls.specs.Variables.{Expands, value_of}

-- what is true of every folder is true of this one
pub at_folder : {U E : Type 0} (P : E → Type 0) (Q : Option (List ℕ) → Type 0) (folder : Option (List ℕ)) (result : Result U (Refusal E))
    → IfErr result (λ refusal. IfFault refusal (λ fault. P fault → (each : Option (List ℕ)) → Q each)) → IfErr result (λ refusal. IfFault refusal (λ fault. P fault → Q folder))
at_folder P Q folder (Ok url) h = tt
at_folder P Q folder (Err refusals.OutOfMemory) h = tt
at_folder P Q folder (Err refusals.SegmentAtEnd) h = tt
at_folder P Q folder (Err (refusals.Fault fault)) h = λ p. h p folder

module _ (text expanded : List ℕ) (surroundings : Surroundings) (meaning : Meaning)
    (expands : Expands (value_of surroundings) text expanded) (stands_for : StandsFor expanded meaning) where
  has : HasMeaning text surroundings meaning
  has = record { expanded = expanded; expands = expands; stands_for = stands_for }

  module _ {U : Type 0} (names : List ℕ → Surroundings → U → Type 0) where
    pub given_value : (gives : U → List ℕ → U → Type 0) (url given : U) → MakesNamed names gives (folder_of surroundings) meaning url → gives url text given → names text surroundings given
    given_value gives url given made g = made text surroundings given has refl g
