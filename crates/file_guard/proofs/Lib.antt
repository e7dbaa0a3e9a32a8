-- re-exported crates: a crate that depends on this one can use their definitions without depending on them too
pub use Rattle.pkg_core.proofs as pkg_core
pub mod Due
pub mod Fronts
pub mod Sample
pub mod Told
mod Worked
