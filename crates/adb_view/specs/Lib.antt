-- The definitions of `adb_view`. The head of each file names the section with its rule.

-- cited by the contract of `apk`
pub mod Bytes
pub mod Readers
pub mod Head
pub mod Plain
pub mod Visits
pub mod Schema
pub mod FieldIndexes
pub mod Values
pub mod Walk
-- used by inner contracts and proofs only
pub mod Adb
pub mod Gives
pub mod Entries
pub mod Width
pub mod Shaped
pub mod FormatTables
pub mod FirstFault
pub mod CountedWalk
pub mod ShapedPayload
pub mod Rank
pub mod Shapes
pub mod VisitFault
pub mod Leaves
