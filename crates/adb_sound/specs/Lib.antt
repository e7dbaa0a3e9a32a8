-- The definitions of `adb_sound`. The head of each file names the section with its rule.

-- re-exported crates: a crate that depends on this one can use their definitions without depending on them too
pub use Rattle.adb_write.specs as adb_write
pub use Rattle.pkg_core.specs as pkg_core
pub use Rattle.pkg_core.specs.adb_fields as adb_fields
pub use Rattle.pkg_core.specs.adb_schema as adb_schema
-- cited by the contract of `apk`
pub mod Container
-- used by inner contracts and proofs only
pub mod Root
pub mod Contents
