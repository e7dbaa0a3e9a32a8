-- re-exported crates: a crate that depends on this one can use their definitions without depending on them too
pub use Rattle.adb_schema.specs as adb_schema
pub use Rattle.adb_schema.specs.adb_fields as adb_fields
-- cited by the contract of `apk`
pub mod Candidates
pub mod Rank
pub mod Options
-- used by other contracts and proofs only
pub mod Values
pub mod PlainCode
pub mod Table
pub mod PositiveInstallIfs
pub mod SoundTexts
pub mod PackageWords
pub mod Packages
pub mod CandidateList
pub mod VersionTexts
pub mod Matches
pub mod PackageMatches
pub mod VersionContracts
