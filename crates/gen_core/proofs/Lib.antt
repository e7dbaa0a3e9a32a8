-- re-exported crates: a crate that depends on this one can use their definitions without depending on them too
pub use Rattle.adb_dump.proofs as adb_dump
pub mod Escapes
pub mod TextLines
pub mod LineReads
pub mod Blocks
pub mod Reading
pub mod Entries
pub mod KindShapes
pub mod RootText
pub mod Stable
pub mod ReadBytes
pub mod Completed
pub mod Texts
pub mod FirstBad
