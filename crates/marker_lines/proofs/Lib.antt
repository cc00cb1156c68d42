pub mod WordLaws
pub mod AskLaws
pub mod SessionLaws
mod KeyLaws
