use Rattle.std.proofs.Common.{sym, subst}
use Rattle.pep508_urls.specs.Meaning.{meaning_of}
use Rattle.pep508_urls.specs.Variables.{Expands, value_of}
use Rattle.pep508_urls.proofs.VerbatimLaws.{fault_in, none_named, size_told}
use Rattle.pep508_urls.proofs.verbatim_url.reading.VerbatimUrlPep508Url.parse_url.Goals as goal

pub returns-clause-fault : goal.returns-clause-fault
returns-clause-fault c =
    none_named c.args.text.now c.as_str.result.now c.args.surroundings.now (meaning_of c.in_ok-target.target) c.in-Err.refusal
    (subst (Expands (value_of c.args.surroundings.now) c.args.text.now) (sym c.as_str.ensures.value) c.in_ok-expanded.ensures.value)
    c.in_ok-target.ensures
    c.in-Err.ensures.fault

pub returns-clause-size : goal.returns-clause-size
returns-clause-size c =
    size_told c.args.text.now c.as_str.result.now c.args.surroundings.now (meaning_of c.in_ok-target.target) c.in-Err.refusal
    (subst (Expands (value_of c.args.surroundings.now) c.args.text.now) (sym c.as_str.ensures.value) c.in_ok-expanded.ensures.value)
    c.in_ok-target.ensures
    c.in-Err.ensures.fault

pub returns-clause-told : goal.returns-clause-told
returns-clause-told c =
    fault_in c.args.text.now c.as_str.result.now c.args.surroundings.now (meaning_of c.in_ok-target.target) c.in-Err.refusal
    (subst (Expands (value_of c.args.surroundings.now) c.args.text.now) (sym c.as_str.ensures.value) c.in_ok-expanded.ensures.value)
    c.in_ok-target.ensures
    c.in-Err.ensures.fault
