pub mod ClassLaws
pub mod RunLaws
pub mod SuffixLaws
pub mod Splits
