pub mod Choices
pub mod Heads
pub mod Sound
pub mod Again
pub mod Runs
pub mod Calls
pub mod WholeFiles
pub mod First
mod Rows
pub mod WrittenBlocks
