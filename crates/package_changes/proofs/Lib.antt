-- re-exported crates: a crate that depends on this one can use their definitions without depending on them too
pub use Rattle.own_core.proofs as own_core
pub use Rattle.own_core.proofs.path_clashes as path_clashes
pub use Rattle.solve_core.proofs as solve_core
pub use Rattle.solve_core.proofs.search_tables as search_tables
pub mod Lists
mod NamesInOrder
mod NameTable
pub mod PlacedLaws
pub mod ReportLines
pub mod StayingNames
pub mod Worked
