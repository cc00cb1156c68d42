pub mod Intervals
pub mod Bounds
pub mod PythonVersion
pub mod Lists
pub mod Ends
pub mod Laws
