-- The definitions of this crate, whose rules are in `docs/commands.md`, "`add` and `del`", and
-- "`upgrade` and `fix`".

-- re-exported crates: a crate that depends on this one can use their definitions without depending on them too
pub use Rattle.own_core.specs as own_core
pub use Rattle.own_core.specs.file_owners as file_owners
pub use Rattle.own_core.specs.path_claims as path_claims
pub use Rattle.own_core.specs.path_clashes as path_clashes
pub use Rattle.solve_core.specs.search_tables as search_tables
-- modules that the contract of `apk` cites
pub mod Changes
pub mod Placed
pub mod Report
-- modules that only inner contracts and proofs use
pub mod Seen
pub mod SelectedNames
