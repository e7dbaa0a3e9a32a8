-- The definitions of `adb_block`. The head of each file names the section with its rule.

-- cited by the contract of `apk`
pub mod BlockWithoutOffset
pub mod Header
pub mod Framing
pub mod PositionBetweenBlocks
pub mod Reading
pub mod Written
-- used by inner contracts and proofs only
pub mod AllBlocks
pub mod Container
pub mod Reader
pub mod Frames
pub mod FirstFraming
