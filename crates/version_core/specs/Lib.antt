-- The definitions of `version_core`. The head of each file names the section with its rule.

-- cited by the contract of `apk`
pub mod Token
pub mod Order
pub mod Op
pub mod Matching
-- used by inner contracts and proofs only
pub mod Grammar
pub mod Reading
pub mod Overlapping
