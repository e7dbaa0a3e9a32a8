-- The definitions of `adb_fields`. The head of each file names the section with its rule.

-- cited by the contract of `apk`
pub mod Paths
pub mod Pairs
pub mod Repeated
-- the order of paths
pub mod JoinedPath
-- used by inner contracts and proofs only
pub mod FirstPair
pub mod Once
pub mod Fields
pub mod ListValue
pub mod NamedTexts
pub mod KnownLists
pub mod ListsOf
