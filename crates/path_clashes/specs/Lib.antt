-- The definitions of this crate, whose rule is in `docs/commands.md`, "What a change does
-- with files", test 2.

-- re-exported crates: a crate that depends on this one can use their definitions without depending on them too
pub use Rattle.adb_fields.specs as adb_fields
-- modules that the contract of `apk` cites
pub mod Clash
pub mod FirstClash
-- modules that only contracts of inner functions and proofs cite
pub mod WrittenPaths
pub mod ClashSeen
pub mod NearName
