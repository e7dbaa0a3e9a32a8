-- re-exported, so that a crate that uses this one need not name these crates
pub use Rattle.adb_values.specs as adb_values
pub use Rattle.adb_values.specs.adb_write as adb_write
-- The definitions of this crate. Each file names the document with its rule.
-- cited by the contract of `apk`
pub mod Fields
pub mod FieldTexts
pub mod Values
pub mod Information
pub mod Output
pub mod Reads
-- used only by laws, contracts of inner functions, and proofs
pub mod FirstOffence
pub mod Named
pub mod Columns
pub mod Faults
pub mod Reading
pub mod Views
