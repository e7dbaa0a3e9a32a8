-- re-exported crates: a crate that depends on this one can use their definitions without depending on them too
pub use Rattle.adb_schema.proofs.adb_fields as adb_fields
pub mod DependencyLists
pub mod JudgedLists
pub mod OptionLists
pub mod OfferLists
pub mod Anyone
pub mod TableLookup
pub mod Answering
pub mod LoopTests
pub mod Installed
pub mod Steps
pub mod TableAdding
pub mod CandidateLists
pub mod ReadWords
pub mod PackageLists
pub mod StoredPackages
pub mod ProvidedVersions
pub mod WantedVersions
pub mod NamedVersions
pub mod Places
