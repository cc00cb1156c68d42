mod ReplacingLaws
mod SameLaws
pub mod ApplyingLaws
pub mod FindingLaws
