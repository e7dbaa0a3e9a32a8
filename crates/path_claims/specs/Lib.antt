-- The definitions of this crate, whose rules are in `docs/commands.md`, "Files that several
-- packages list".

-- re-exported crates: a crate that depends on this one can use their definitions without depending on them too
pub use Rattle.adb_fields.specs as adb_fields
-- modules that the contract of `apk` cites
pub mod Contest
pub mod Claims
-- modules that only contracts of inner functions and proofs cite
pub mod LeftOver
pub mod Seen
pub mod ContestedSeen
pub mod Runs
