-- re-exported crates: a crate that depends on this one can use their definitions without depending on them too
pub use Rattle.adb_values.proofs as adb_values
pub mod FileNames
pub mod FirstOffence
pub mod Left
pub mod Mapped
pub mod Numbers
pub mod OptionFields
pub mod OptionTexts
pub mod OutputFacts
pub mod Outputs
pub mod Reading
pub mod Saying
pub mod Seeing
pub mod Written
