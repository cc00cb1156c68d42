pub mod JoinLaws
pub mod BranchLaws
pub mod EdgeLaws
pub mod WalkLaws
pub mod DnfLaws
mod Asked
mod QuestionLaws
mod CutLaws
mod Ascents
mod VersionEnds
mod NodeLaws
mod TextLaws
mod ReleaseLaws
mod TellLaws
mod ReadableLaws
mod MarkerFormulas
