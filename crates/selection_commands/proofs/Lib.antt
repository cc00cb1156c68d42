pub mod TableLaws
pub mod JsonLaws
pub mod SelectingLaws
pub mod TabulatingLaws
pub mod TargetLaws
pub mod ReachedLaws
pub mod TruthLaws
pub mod ProductLaws
