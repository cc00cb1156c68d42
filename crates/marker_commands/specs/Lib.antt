pub mod Outcome
pub mod Parsing
pub mod Comparing
pub mod Extras
pub mod Ranges
pub mod Values
pub mod Evaluating
pub mod Simplifying
