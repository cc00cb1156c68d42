pub mod AndLaws
pub mod CountLaws
pub mod ReleaseLaws
pub mod StepLaws
