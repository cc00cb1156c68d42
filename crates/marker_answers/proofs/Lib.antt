pub mod KeptLaws
pub mod SettleLaws
pub mod GrantLaws
pub mod FactLaws
