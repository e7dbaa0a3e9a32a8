pub mod Found
pub mod Rising
pub mod Pages
pub mod Compared
pub mod Nearby
pub mod StoredWords
pub mod Held
pub mod Appended
mod Pieces
mod Files
pub mod Placed
pub mod RoundTrip
pub mod Limits
pub mod WriterSteps
pub mod Grown
pub mod Cells
pub mod AnyOrder
pub mod DepthFirst
pub mod Visited
pub mod Overflow
pub mod Again
pub mod Kept
mod Worked
