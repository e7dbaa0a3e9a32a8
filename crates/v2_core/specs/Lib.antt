-- re-exported crates: a crate that depends on this one can use their definitions without depending on them too
pub use Rattle.adb_schema.specs as adb_schema
pub use Rattle.make_info.specs as make_info
pub use Rattle.make_info.specs.adb_values as adb_values
pub use Rattle.make_info.specs.adb_write as adb_write
-- The definitions of this crate. Each file names the document with its rule.
-- cited by the contract of `apk`: what a line says
pub mod InfoFields
pub mod InfoValues
pub mod Accesses
pub mod Lines
-- cited by the contract of `apk`: what a text says
pub mod Records
pub mod Reading
pub mod Database
pub mod Payload
-- cited by the laws
pub mod FirstBadLine
pub mod Spelling
-- used by inner contracts and proofs only
pub mod Views
pub mod Columns
pub mod Writing
