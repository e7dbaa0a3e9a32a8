-- re-exported crates: a crate that depends on this one can use their definitions without depending on them too
pub use Rattle.path_claims.proofs as path_claims
pub mod Lists
pub mod PathOrder
pub mod Firsts
