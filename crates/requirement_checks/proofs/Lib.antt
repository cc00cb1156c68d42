mod ReadingLaws
mod LineLaws
mod SpecifierLaws
