pub mod Values
pub mod HandleSteps
pub mod HandleLaws
pub mod NumberLaws
mod ReadLaws
pub mod ScriptLaws
