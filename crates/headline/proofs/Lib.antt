pub mod Ended
pub mod Promised
