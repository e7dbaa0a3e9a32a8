-- re-exported, so that a crate that uses this one need not name these crates
pub use Rattle.package_reader.specs as package_reader
pub use Rattle.package_reader.specs.adb_schema as adb_schema
pub use Rattle.package_reader.specs.pkg_core as pkg_core
-- The definitions of this crate. The head of each file names the section with its rule.
-- cited by the contract of `apk`: nothing
-- used only by contracts of inner functions, and by proofs
pub mod Tested
pub mod Tests
pub mod Places
