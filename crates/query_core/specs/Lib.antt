-- The definitions of this crate. Each file names the place of its rule.

-- what the contract of `apk` says
pub mod Order
pub mod List
pub mod Search
pub mod Policy
pub mod Queries
-- what only the laws say
pub mod Asked
-- what only inner contracts and proofs use
pub mod Appends
pub mod QueryRanking
pub mod Lines
pub mod EntryFound
pub mod VersionPlaces
