pub mod ListLaws
pub mod PairLaws
pub mod GrowthLaws
pub mod NumberLaws
pub mod KindLaws
pub mod WalkLaws
mod ReplyLaws
