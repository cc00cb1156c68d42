use Rattle.marker_words.specs.declared.fault.FaultKind.TheVariants.{Unexpected}
use Rattle.marker_words.proofs.FaultLaws.{fault_at_piece}
use Rattle.marker_grammar.proofs.FaultsOfReader.{unexpected_at}
use Rattle.marker_grammar.proofs.reader.unexpected_fault.Goals as goal

pub returns-in-Some : goal.returns-in-Some
returns-in-Some c spaceless wordless =
    fault_at_piece (Unexpected c.args.found) c.at.ensures.kind c.at.ensures.place c.at_run.ensures.piece c.at_run.ensures.left
    (unexpected_at _ _ _ _ _ c.utf8.text c.requires.begins.1 c.in-Some.ensures.bytes c.in-Some.ensures.characters spaceless wordless)

pub returns-in-None : goal.returns-in-None
returns-in-None c spaceless wordless = absurd (c.requires.some c.in-None.ensures.characters)
