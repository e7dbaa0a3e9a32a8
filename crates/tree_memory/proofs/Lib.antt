pub mod AtName
pub mod Below
pub mod Changed
pub mod Counting
pub mod Folders
pub mod Growing
pub mod Imaging
pub mod Keeping
pub mod Outcomes
pub mod Picking
pub mod Placed
pub mod Planned
mod Rows
pub mod Sinking
pub mod Undoing
mod Pieces
