-- re-exported crates: a crate that depends on this one can use their definitions without depending on them too
pub use Rattle.option_ranks.proofs as option_ranks
pub use Rattle.option_ranks.proofs.candidate_core as candidate_core
pub mod SortedOptions
pub mod Filtered
pub mod SamePackage
pub mod FieldsByName
pub mod Sealing
pub mod MarksThroughTable
pub mod SearchedWords
