pub mod Known
pub mod Evaluation
pub mod Simplified
