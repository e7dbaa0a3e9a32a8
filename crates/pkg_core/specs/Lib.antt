-- The definitions of this crate. The head of each file names the section with its rule.

-- re-exported, so that a crate that uses this one need not name these crates
pub use Rattle.adb_schema.specs as adb_schema
pub use Rattle.adb_schema.specs.adb_fields as adb_fields
-- cited by the contract of `apk`
pub mod Contents
pub mod Whole
-- used only by contracts of inner functions, and by proofs
pub mod Opened
pub mod Refusals
pub mod GoodContents
pub mod FirstContents
pub mod Pieces
pub mod Hashing
pub mod Taking
pub mod Places
pub mod Front
pub mod Seen
pub mod Values
