-- re-exported crates: a crate that depends on this one can use their definitions without depending on them too
pub use Rattle.pkg_core.proofs as pkg_core
pub mod BlockSeen
pub mod PieceRead
pub mod BlockStepped
pub mod FilesFound
pub mod Readings
pub mod FileRead
pub mod FileDue
pub mod FileOpened
