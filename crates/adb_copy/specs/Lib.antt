-- The definitions of this crate, whose rules are in `docs/formats.md`, "The database after a change",
-- and "Canonical layout".

-- re-exported crates: a crate that depends on this one can use their definitions without depending on them too
pub use Rattle.adb_fields.specs as adb_fields
pub use Rattle.adb_values.specs as adb_values
pub use Rattle.adb_values.specs.adb_write as adb_write
-- cited by the contract of `apk`
pub mod Zeros
-- used by inner contracts and proofs only
pub mod Fields
pub mod Known
