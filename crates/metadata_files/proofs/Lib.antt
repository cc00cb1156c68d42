mod FoldedLaws
mod NameLaws
mod HeaderLaws
