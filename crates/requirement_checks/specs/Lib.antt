pub mod Reading
pub mod Findings
pub mod Lines
pub mod Specifiers
