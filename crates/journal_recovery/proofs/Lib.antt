pub mod Counted
pub mod Emptying
pub mod Recovered
pub mod Replaying
pub mod Synced
