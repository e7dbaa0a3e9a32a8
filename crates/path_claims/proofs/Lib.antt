-- re-exported crates: a crate that depends on this one can use their definitions without depending on them too
pub use Rattle.adb_fields.proofs as adb_fields
pub mod Runs
pub mod Contests
pub mod ClaimOrder
pub mod Places
pub mod Owned
pub mod Marks
pub mod FirstContested
pub mod Whole
