-- re-exported crates: a crate that depends on this one can use their definitions without depending on them too
pub use Rattle.journal_core.specs as journal_core
-- modules that the contract of `apk` cites
pub mod StageRun
pub mod Asked
-- the module that the contract of `replace` cites, beside definitions of `journal_core`
pub mod NameLengths
-- the module that the contracts of `NewFile` cite
pub mod NewFilePieces
-- modules that only contracts of inner functions and proofs cite
pub mod StagingCalls
