-- The definitions of this crate, whose rules are in `docs/selection.md`, "What satisfies world", and "Which selection
-- is taken".

-- re-exported crates: a crate that depends on this one can use their definitions without depending on them too
pub use Rattle.search_tables.specs as search_tables
pub use Rattle.search_tables.specs.candidate_core as candidate_core
-- cited by the contracts of this crate's calls
pub mod TriggeredInstallIf
