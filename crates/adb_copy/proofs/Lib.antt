-- re-exported crates: a crate that depends on this one can use their definitions without depending on them too
pub use Rattle.adb_fields.proofs as adb_fields
pub use Rattle.adb_values.proofs as adb_values
pub mod Entries
pub mod Fields
pub mod Lists
pub mod Shapes
pub mod Zeros
pub mod WithoutZeros
pub mod Known
pub mod ReadWords
pub mod Periods
pub mod TextPlaces
