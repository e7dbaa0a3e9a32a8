-- re-exported crates: a crate that depends on this one can use their definitions without depending on them too
pub use Rattle.path_clashes.proofs as path_clashes
pub use Rattle.path_clashes.proofs.adb_fields as adb_fields
-- Lemmas of this crate.
mod Reading
mod RecordOrder
mod RecordSteps
pub mod Listings
mod AuditSteps
mod SortedRecords
mod Differing
pub mod PathsOnce
mod RisingPaths
mod ManifestSteps
