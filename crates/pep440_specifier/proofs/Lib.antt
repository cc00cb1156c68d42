pub mod Ties
pub mod Operators
pub mod Faults
pub mod Texts
pub mod ReadBack
