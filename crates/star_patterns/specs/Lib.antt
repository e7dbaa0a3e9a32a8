-- what the contract of `apk` says
pub mod Patterns
-- what its law says
pub mod Fills
-- what only inner contracts and proofs use
pub mod Ends
