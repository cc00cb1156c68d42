-- What stays of an interner, for the crates above.
pub use Rattle.marker_conjunctions.proofs.ReleaseLaws.{kept_itself, kept_both, kept_nodes, kept_same, released_is, released_held, released_kept, released_undone, released_well}
