-- re-exported crates: a crate that depends on this one can use their definitions without depending on them too
pub use Rattle.file_guard.proofs as file_guard
pub use Rattle.file_owners.proofs as file_owners
pub use Rattle.path_clashes.proofs as path_clashes
pub mod AfterNames
pub mod Brought
pub mod ComingFiles
pub mod InOrder
pub mod LeftOver
pub mod Lists
pub mod OwnedFiles
pub mod PlanNames
pub mod RecordNames
pub mod Reserved
pub mod Sample
pub mod Untouched
mod Worked
mod WorkedConfiguration
mod WorkedPlaces
pub mod Written
pub mod NamesOnce
pub mod OwnNames
pub mod Meaning
pub mod WritesMeaning
pub mod PartsMeaning
pub mod NameChanges
pub mod PlanParts
pub mod Refusals
pub mod WholePlan
pub mod Endings
pub mod AfterReads
pub mod Kept
pub mod Listings
pub mod ChangeClaims
pub mod TreeLoops
pub mod Divided
pub mod FoundFiles
pub mod OneFile
pub mod MarkedClaims
