-- The definitions of trees, crashes, names, sinks and sorted lists. The README of this crate says in
-- which order to read them; the head of each file names the document with its rule.

-- what the contract of `apk` says
pub mod Lists
pub mod Name
pub mod Files
pub mod Tree
pub mod Faults
pub mod Calls
pub mod Listed
pub mod Crash
pub mod Undone
pub mod Sink
pub mod Restart
pub mod Sorted
pub mod ByteOrder
-- what only inner contracts and proofs use
pub mod Read
pub mod Write
