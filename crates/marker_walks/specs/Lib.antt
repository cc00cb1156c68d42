pub mod Disjoint
pub mod Evaluation
pub mod Possible
pub mod Report
pub mod Looks
pub mod Search
pub mod Subtrees
pub mod Keys
