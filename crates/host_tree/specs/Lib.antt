-- cited by the contracts of this crate's calls
pub mod Host
