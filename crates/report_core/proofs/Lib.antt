pub mod Counting
pub mod Fronts
pub mod Behind
mod Worked
