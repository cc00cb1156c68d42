mod ReadingLaws
mod OneReading
mod StackLaws
mod SpaceLaws
mod PostfixLaws
mod ReaderLaws
mod FaultsOfReader
pub mod TestLaws
mod ValidLaws
mod OpenLaws
mod Printed
mod AsciiLaws
mod WordLaws
mod SideLaws
mod QuoteLaws
mod TermLaws
mod TextTerms
mod VersionTerms
mod ExtraTerms
mod ExpressionTerms
mod AndLaws
mod OrLaws
mod ByteLaws
pub mod ClauseLaws
mod DisplayLaws
