use Rattle.marker_environment.specs.Environment.{values_of}
use Rattle.foreign_markers.proofs.NumberLaws.{has_value_at}
use Rattle.foreign_markers.proofs.ReadLaws.{last_is}
use Rattle.foreign_markers.proofs.markers.Markers.evaluate.Goals as goal

pub returns-clause-told : goal.returns-clause-told
returns-clause-told c =
    let read = c.in-Some-last_read.read in
    has_value_at c.args.self.now.interner c.in-Some.tree (values_of read.environment) c.in-Some.ensures.found (last_is c.args.values.now c.read_again.new.last read c.in-Some-last_read.is c.in_ok-read_again.ensures.given) c.in_ok-names.ensures.read
    c.deref.ensures.value c.evaluate.ensures
