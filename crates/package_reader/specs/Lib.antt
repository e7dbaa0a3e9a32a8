-- re-exported, so that a crate that uses this one need not name these crates
pub use Rattle.pkg_core.specs as pkg_core
pub use Rattle.pkg_core.specs.adb_fields as adb_fields
pub use Rattle.pkg_core.specs.adb_schema as adb_schema
-- The definitions of this crate. The head of each file names the section with its rule.
-- cited by the contract of `apk`: nothing
-- used only by contracts of inner functions, and by proofs
pub mod Blocks
pub mod Opened
pub mod Readers
pub mod FileReading
