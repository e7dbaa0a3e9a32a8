-- re-exported crates: a crate that depends on this one can use their definitions without depending on them too
pub use Rattle.package_files.proofs as package_files
pub use Rattle.package_files.proofs.adb_sound as adb_sound
pub use Rattle.pool_core.proofs.candidate_core as candidate_core
pub use Rattle.v2_core.proofs as v2_core
pub mod Handed
mod Reading
pub mod Texts
pub mod WorldSteps
pub mod IndexSteps
pub mod PoolSteps
pub mod Explained
pub mod OwnReads
pub mod WorldRest
