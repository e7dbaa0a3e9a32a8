-- re-exported crates: a crate that depends on this one can use their definitions without depending on them too
pub use Rattle.adb_schema.proofs as adb_schema
pub mod Worked
pub mod WordReads
pub mod Pieces
pub mod Puts
pub mod Lengths
pub mod Left
pub mod Nulls
pub mod BlockLines
pub mod Turns
pub mod WholeText
pub mod Placed
pub mod Booleans
pub mod LineBack
pub mod ValueBack
pub mod TextLines
pub mod ReadOnly
pub mod ValueLaws
pub mod ValuesFound
