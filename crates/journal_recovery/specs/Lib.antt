-- The definitions of this crate. Each file names the document with its rule.
-- modules that only contracts of inner functions and proofs cite
pub mod RecoveryContracts
