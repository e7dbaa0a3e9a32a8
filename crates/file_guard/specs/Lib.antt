-- re-exported, so that a crate that uses this one need not name these crates
pub use Rattle.pkg_core.specs as pkg_core
pub use Rattle.pkg_core.specs.adb_fields as adb_fields
pub use Rattle.pkg_core.specs.adb_schema as adb_schema
-- cited by the contract of `apk`
pub mod AsListed
-- used only by contracts of inner functions, and by proofs
pub mod Listed
pub mod Watching
