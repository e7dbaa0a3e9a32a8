-- re-exported crates: a crate that depends on this one can use their definitions without depending on them too
pub use Rattle.adb_write.proofs as adb_write
pub mod Taken
pub mod Closed
pub mod Finished
-- For callers.
pub mod Lists
pub mod Words
