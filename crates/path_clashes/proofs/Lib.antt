-- re-exported crates: a crate that depends on this one can use their definitions without depending on them too
pub use Rattle.adb_fields.proofs as adb_fields
pub mod FolderLike
pub mod FolderAfter
pub mod PairOrder
pub mod Above
pub mod Below
pub mod Paths
pub mod NearClash
pub mod SoFar
pub mod Observed
pub mod Present
pub mod Reading
pub mod NoName
pub mod OneFirst
pub mod OneName
pub mod Between
pub mod MayBeNear
pub mod SomeFiles
pub mod MaySoFar
