-- re-exported crates: a crate that depends on this one can use their definitions without depending on them too
pub use Rattle.search_choices.proofs.search_tables as search_tables
pub mod Steps
pub mod Resolution
pub mod PoolRules
pub mod Weights
pub mod FirstFound
pub mod Existence
pub mod WalkLaws
