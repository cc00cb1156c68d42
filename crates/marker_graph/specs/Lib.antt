pub mod Contents
pub mod Tree
pub mod Meaning
pub mod Evaluation
pub mod Extras
pub mod Ranged
pub mod Edges
pub mod Kind
pub mod ContentsTree
pub mod Everywhere
pub mod Relation
pub mod Laws
-- what the crates below say of truths over valuations
pub use Rattle.marker_simplifications.specs.Expression
pub use Rattle.marker_walks.specs.Possible
pub use Rattle.marker_simplifications.specs.Python
pub mod Mark
pub mod Texts
