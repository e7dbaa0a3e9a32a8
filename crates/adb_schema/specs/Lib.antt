-- The definitions of `adb_schema`. The head of each file names the section with its rule.

-- re-exported crates: a crate that depends on this one can use their definitions without depending on them too
pub use Rattle.adb_fields.specs as adb_fields
-- cited by the contract of `apk`
pub mod Soundness
pub mod Reserved
pub mod Rules
pub mod Texts
pub mod Dependencies
-- used by inner contracts and proofs only
pub mod SoundContainers
pub mod ReadFaults
pub mod Checked
pub mod Views
pub mod SoundValues
pub mod FirstBad
pub mod Surroundings
pub mod TextRules
pub mod TextWalk
