-- The definitions of this crate. The head of each file names the document and section with its rule.
-- what the contract of `apk` says: nothing
-- what only inner contracts and proofs use
pub mod Changes
pub mod Images
pub mod Kept
pub mod Memory
pub mod Plans
pub mod Sink
pub mod Stores
pub mod Table
pub mod Tallies
pub mod WellFormedLaw
