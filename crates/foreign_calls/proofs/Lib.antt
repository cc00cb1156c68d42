pub mod KeptLaws
pub mod MarkerLaws
pub mod RelationLaws
pub mod SimplifiedLaws
pub mod CheckLaws
pub mod JsonLaws
pub mod ReadingLaws
pub mod RequirementLaws
