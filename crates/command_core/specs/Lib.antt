-- The definitions of this crate. The head of each file names the section with its rule. Cited by the
-- contract of `apk`:
pub mod Flags
pub mod Files
pub mod Operands
pub mod Values
pub mod Applets
pub mod Command
-- used by inner contracts and proofs only
pub mod Named
pub mod Sound
