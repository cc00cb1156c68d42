pub mod FormulaTree
pub mod Trees
pub mod Cells
pub mod Text
pub mod Json
pub mod Machine
pub mod Session
