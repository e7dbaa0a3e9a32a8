-- re-exported crates: a crate that depends on this one can use their definitions without depending on them too
pub use Rattle.search_needs.proofs.search_tables as search_tables
pub use Rattle.search_needs.proofs.candidate_core as candidate_core
pub mod Consistency
pub mod Asking
pub mod NextFrames
