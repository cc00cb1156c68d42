pub mod Key
pub mod Word
pub mod Line
pub mod LineView
pub mod Reply
pub mod LineStep
pub mod SessionView
