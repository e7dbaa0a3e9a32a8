pub mod Entries
pub mod Named
pub mod Numbers
pub mod Parts
