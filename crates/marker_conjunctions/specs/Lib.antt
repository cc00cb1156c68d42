pub mod Reach
pub mod Contents
pub mod Branch
pub mod Count
pub mod Step
