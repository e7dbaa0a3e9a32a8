-- re-exported crates: a crate that depends on this one can use their definitions without depending on them too
pub use Rattle.apk_front.proofs.journal_core as journal_core
pub mod Along
pub mod AtMoments
pub mod BadIntent
pub mod Called
pub mod Committed
pub mod Ending
pub mod Facts
pub mod Idle
pub mod Moments
pub mod Names
pub mod OneRun
pub mod Recoverable
pub mod Recovered
pub mod Torn
pub mod Touched
pub mod Unstaged
