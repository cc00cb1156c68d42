use Rattle.std.proofs.Common.{◌≢◌, refl, rules, inl}
use Rattle.marker_words.specs.declared.fault.FaultKind.TheVariants.{MissingAtEnd, Missing}
use Rattle.marker_words.proofs.FaultLaws.{fault_at_end, fault_at_first}
use Rattle.marker_words.proofs.lexical.expect.Goals as goal

pub returns-in_default-clause-fault : goal.returns-in_default-clause-fault
returns-in_default-clause-fault c letter = fault_at_end (MissingAtEnd c.args.awaited) c.at.ensures.kind c.at.ensures.place c.at_end.ensures.piece c.at_end.ensures.left (refl, letter)

pub returns-then-c-awaited-clause-fault : goal.returns-then-c-awaited-clause-fault
returns-then-c-awaited-clause-fault c letter =
    let differs : c.in-Some.c ≢ c.args.awaited = search rules in
    fault_at_first c.in-Some.c (Missing c.args.awaited) c.utf8.text c.in-Some.ensures.suffix c.in-Some.ensures.bytes c.at-then-c-awaited.ensures.kind c.at-then-c-awaited.ensures.place c.before-then-c-awaited.ensures.piece c.before-then-c-awaited.ensures.left (λ e. (c.in-Some.c, e, differs, inl letter))
