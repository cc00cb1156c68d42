-- What follows of readings of requirements.
use Rattle.std.proofs.Common.{◌≡◌, ℕ, Bool, true, false, List, Option, inr}
use Rattle.std.proofs.lemmas.Bool.{false≢true}
use Rattle.std.specs.Prelude.{Result, Ok, Err, IfOk}
use Rattle.pep508_errors.specs.declared.surroundings.Surroundings.{Surroundings}
use Rattle.marker_graph.specs.Contents.{Contents}
use Rattle.requirement_checks.specs.Reading.{needs_name, IsNamedReading, IsReading, IsUnnamedReading, NeedsName}
use Rattle.requirement_checks.specs.declared.reading.Reading.{Reading}
use Rattle.requirement_checks.specs.declared.reading.Reading.TheVariants.{Named, Unnamed, Invalid, NumberTooLarge}

module _ {T E : Type 0} (names : List ℕ → Surroundings → T → Type 0) (tells_size : E → Bool)
    (may_overflow : List ℕ → Surroundings → Type 0) (given_text : T → Option (List ℕ))
    (surroundings : Surroundings) where
  -- a reading that needs a name is one that is refused so
  pub refused_so : (c : Contents) (text : List ℕ) (reading : Reading T E) → IsNamedReading names tells_size may_overflow given_text surroundings c text reading → needs_name reading ≡ true → NeedsName names tells_size may_overflow given_text surroundings text
  refused_so c text (Named r warnings) read needs = absurd (false≢true needs)
  refused_so c text (Unnamed r warnings) read needs = absurd (false≢true needs)
  refused_so c text (Invalid error) read needs = record { error = error; refused = read; unsupported = needs }
  refused_so c text NumberTooLarge read needs = absurd (false≢true needs)

  -- then it is read as one without a name
  pub read_without : {A : Type 0} (c : Contents) (text : List ℕ) (result : Result (Reading T E) A) → NeedsName names tells_size may_overflow given_text surroundings text → IfOk result (IsUnnamedReading names tells_size may_overflow given_text surroundings c text) → IfOk result (IsReading names tells_size may_overflow given_text surroundings c text)
  read_without c text (Ok reading) needs read = inr (needs, read)
  read_without c text (Err error) needs read = tt
