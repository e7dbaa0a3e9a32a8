-- The definitions of `adb_write`. The head of each file names the section with its rule.

-- cited by the contract of `apk`
pub mod Canonical
pub mod File
-- used by inner contracts and proofs only
pub mod Size
pub mod Writing
pub mod DepthFirst
pub mod Denotes
pub mod Again
pub mod Items
pub mod Keys
pub mod WordPages
pub mod WriterState
