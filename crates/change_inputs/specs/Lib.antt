-- re-exported crates: a crate that depends on this one can use their definitions without depending on them too
pub use Rattle.db_core.specs as db_core
pub use Rattle.package_files.specs as package_files
pub use Rattle.package_files.specs.adb_sound as adb_sound
pub use Rattle.package_files.specs.make_info as make_info
pub use Rattle.pool_core.specs.candidate_core as candidate_core
pub use Rattle.v2_core.specs as v2_core
-- modules that the contract of `apk` cites
pub mod Chains
pub mod Database
pub mod World
pub mod Repositories
pub mod Indexes
pub mod Inputs
pub mod Candidates
pub mod Answers
-- modules that only inner contracts and proofs use
pub mod Faults
pub mod IndexFiles
pub mod RootFiles
pub mod Seen
pub mod WorldRest
