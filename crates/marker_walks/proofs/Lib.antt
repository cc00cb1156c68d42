pub mod Disjoints
pub mod PossibleLaws
pub mod ReportLaws
mod Lowest
pub mod GrowthLaws
pub mod WalkLaws
pub mod DependLaws
pub mod KeyLaws
