pub mod TruthLaws
pub mod SetLaws
pub mod RangeLaws
pub mod TrimLaws
pub mod Assumptions
pub mod Grants
pub mod GrantSteps
