pub mod Pairwise
pub mod Drawing
pub mod Numbering
pub mod Reply
