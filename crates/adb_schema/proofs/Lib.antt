-- re-exported crates: a crate that depends on this one can use their definitions without depending on them too
pub use Rattle.adb_fields.proofs as adb_fields
pub mod Sound
pub mod SoundPayload
pub mod Below
pub mod NoRule
pub mod TextSteps
pub mod FirstBad
pub mod SoundLeaves
pub mod GoodTexts
