pub mod Columns
pub mod UnderlineLaws
