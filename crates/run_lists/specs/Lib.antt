-- re-exported crates: a crate that depends on this one can use their definitions without depending on them too
pub use Rattle.apk_front.specs as apk_front
pub use Rattle.apk_front.specs.journal_core as journal_core
-- modules that the laws of this crate cite, in the order in which they are best read
pub mod Events
pub mod Safety
pub mod Reading
pub mod Recovered
