mod NameLaws
mod RangeLaws
mod ParsingLaws
mod ComparingLaws
mod EvaluatingLaws
mod SimplifyingLaws
