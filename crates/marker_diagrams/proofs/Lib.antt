pub mod IdLaws
pub mod NodeLaws
pub mod Canonicity
pub mod StoreLaws
pub mod ResidueLaws
pub mod KeyLaws
pub mod ChoiceLaws
pub mod ListLaws
