use Rattle.std.proofs.Common.{List, Some, sym, subst}
use Rattle.std.specs.Str.{chars}
use Rattle.pep508_text.proofs.SuffixLaws.{suffix_then}
use Rattle.pep508_text.specs.Suffix.{IsSuffix}
use Rattle.pep508_errors.specs.declared.warning.MarkerWarningKind.{MarkerWarningKind}
use Rattle.marker_graph.specs.declared.tree.TheConstants.MarkerTree.{TRUE}
use Rattle.pep508_requirements.specs.Requirement.{IsTreeOfEnd}
use Rattle.requirement_words.specs.Tail.{IsTail}
use Rattle.pep508_requirements.proofs.EndLaws.{end_refusal, marker_refused, unmarked_end}
use Rattle.pep508_requirements.proofs.end.read_end.Goals as goal

pub read_marker-requires-clause-suffix : goal.read_marker-requires-clause-suffix
read_marker-requires-clause-suffix g c = suffix_then c.requires.suffix (rw c.in-Ok-Some.field-0-is at c.in-Ok-Some.ensures.suffix)

pub read_marker-requires-clause-tail : goal.read_marker-requires-clause-tail
read_marker-requires-clause-tail g c = rw c.in-Ok-Some.field-0-is at c.in-Ok-Some.ensures.found

pub returns-in-Ok-None-clause-means : goal.returns-in-Ok-None-clause-means
returns-in-Ok-None-clause-means g c =
    subst (λ (kinds : List MarkerWarningKind). IsTreeOfEnd c.args.interner.now (chars c.args.rest.now) TRUE kinds) (sym c.new.ensures.items)
    (unmarked_end _ _ (rw c.in-Ok-None.field-0-is at c.in-Ok-None.ensures.found))

pub returns-in-Ok-Some-clause-refused : goal.returns-in-Ok-Some-clause-refused
returns-in-Ok-Some-clause-refused g c =
    let suffix : IsSuffix c.args.rest.now c.in-Ok-Some.marker.now = rw c.in-Ok-Some.field-0-is at c.in-Ok-Some.ensures.suffix in
    let tail : IsTail (chars c.args.rest.now) (Some (chars c.in-Ok-Some.marker.now)) = rw c.in-Ok-Some.field-0-is at c.in-Ok-Some.ensures.found in
    marker_refused c.args.text.now c.args.url.now c.args.rest.now c.in-Ok-Some.marker.now suffix.utf8 tail c.read_marker.result c.read_marker.ensures.refused

pub returns-in-Err-clause-refused : goal.returns-in-Err-clause-refused
returns-in-Err-clause-refused g c =
    end_refusal c.args.text.now c.args.url.now c.args.rest.now c.in-Err.fault c.refusal_of_fault.result c.requires.placed c.in-Err.ensures.fault c.in-Err.ensures.refused c.refusal_of_fault.ensures
