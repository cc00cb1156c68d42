pub mod ComparisonLaws
mod MeaningLaws
mod CloneLaws
mod VersionListLaws
mod AskLaws
pub mod WholeLaws
