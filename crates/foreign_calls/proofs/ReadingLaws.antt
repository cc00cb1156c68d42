-- What is known of a text that is read as a requirement, or refused.
use Rattle.std.proofs.Common.{◌≡◌, ◌≢◌, ℕ, List, refl, inl, inr}
use Rattle.std.specs.Prelude.{Result, Ok, Err, IfOk, IfErr, ◌⊎◌}
use Rattle.refusal.specs.declared.Refusal.{Refusal}
use Rattle.refusal.specs.declared.Refusal.TheVariants as refusals
use Rattle.pep508_errors.specs.declared.surroundings.Surroundings.{Surroundings}
use Rattle.pep508_urls.specs.declared.error.VerbatimUrlError.{VerbatimUrlError}
use Rattle.pep508_urls.specs.Fault.{tells_size, TextMayOverflow}
use Rattle.pep508_urls.specs.Meaning.{IsVerbatim}
use Rattle.pep508_urls.specs.Verbatim.{Verbatim}
use Rattle.marker_graph.specs.Contents.{Contents, truth}
use Rattle.pep508_requirements.specs.declared.requirement.Requirement.{Requirement}
use Rattle.pep508_requirements.specs.Refused.{IsRefusalIn}
use Rattle.pep508_requirements.specs.Whole.{IsParsed}
use Rattle.foreign_calls.specs.Options.{AreIn}
use Rattle.foreign_calls.specs.Refused.{Answers}
use Rattle.foreign_calls.specs.declared.answer.Answer.{Answer}
use Rattle.foreign_calls.specs.Reading.{Error, IsReadFrom, IsRefused, IsRequirementRefusal}

abbrev Read : Type 0
Read = Requirement Verbatim VerbatimUrlError

-- a requirement that is read in surroundings of a folder
pub read_in : (c : Contents) (folder text : List ℕ) (s : Surroundings) (r : Result Read (Refusal Error)) → AreIn folder s
    → IfOk r (IsParsed IsVerbatim s c text) → IfOk r (IsReadFrom c folder text)
read_in c folder text s (Ok r) are_in is = record {
  says = record {
    surroundings = s;
    are_in = are_in;
    formula = is.1.read.formula;
    kinds = is.0;
    requirement = is.1.read.requirement;
    no_overflow = is.1.read.no_overflow;
    means = is.1.read.means;
  };
}
read_in c folder text s (Err refusal) are_in is = tt

-- and a refusal
pub refused_in : (folder text : List ℕ) (s : Surroundings) (r : Result Read (Refusal Error)) → AreIn folder s
    → IfErr r (IsRefusalIn IsVerbatim tells_size TextMayOverflow s text) → IfErr r (IsRefused folder text)
refused_in folder text s (Ok r) are_in is = tt
refused_in folder text s (Err refusal) are_in is = record { surroundings = s; are_in = are_in; is = is }

-- the answer to a text that is refused says why
pub refused : (folder text : List ℕ) (refusal : Refusal Error) (answer : Answer) → IsRefused folder text refusal → Answers refusal answer → IsRequirementRefusal folder text answer
refused folder text refusals.OutOfMemory answer p (inl e) = record { not_done = λ f. (cc); not_small = λ f. (cc); invalid = λ f. (cc); too_large = λ f. (cc) }
refused folder text refusals.OutOfMemory answer p (inr e) = record { not_done = λ f. (cc); not_small = λ f. (cc); invalid = λ f. (cc); too_large = λ f. (cc) }
refused folder text refusals.SegmentAtEnd answer p e = record {
  not_done = λ f. (cc);
  not_small = λ f. (cc);
  invalid = λ f. (cc);
  too_large = λ f. record { surroundings = p.surroundings; are_in = p.are_in; is = p.is };
}
refused folder text (refusals.Fault error) answer p e = record {
  not_done = λ f. (cc);
  not_small = λ f. (cc);
  invalid = λ f. record { error = error; is = record { surroundings = p.surroundings; are_in = p.are_in; is = p.is } };
  too_large = λ f. (cc);
}
