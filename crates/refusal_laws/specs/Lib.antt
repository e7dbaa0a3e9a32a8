-- re-exported crates: a crate that depends on this one can use their definitions without depending on them too
pub use Rattle.outcome.specs as outcome
pub use Rattle.outcome.specs.words_core as words_core
-- cited by laws of changes
pub mod InputFaults
pub mod ReadBefore
pub mod InfoFaults
pub mod QueryFaults
pub mod AddedPackages
pub mod PackageFaults
pub mod ChangeFaults
pub mod FirstPackage
pub mod TestsPassed
pub mod PackagesAfter
pub mod CommandFaults
pub mod OperandsKnown
pub mod RunFaults
pub mod RunMade
pub mod MadeTooLarge
