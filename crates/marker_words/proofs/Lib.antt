pub mod LexicalLaws
pub mod ValueLaws
pub mod OperatorLaws
pub mod FaultLaws
mod NameLaws
mod SideLaws
