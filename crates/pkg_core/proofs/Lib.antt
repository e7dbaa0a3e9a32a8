-- re-exported crates: a crate that depends on this one can use their definitions without depending on them too
pub use Rattle.adb_schema.proofs as adb_schema
pub use Rattle.adb_schema.proofs.adb_fields as adb_fields
pub mod Listed
pub mod OneFile
pub mod Steps
pub mod Digests
pub mod Given
pub mod First
pub mod Joined
pub mod Taken
pub mod Opened
pub mod BlockRuns
pub mod Placed
pub mod Heads
pub mod SeenBytes
pub mod ReadCalls
pub mod HeaderFront
pub mod FrontSteps
pub mod FrontSeen
pub mod WholeReads
pub mod WholeTests
