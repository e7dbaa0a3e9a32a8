-- re-exported, so that a crate that uses this one need not name these crates
pub use Rattle.audit_core.specs as audit_core
pub use Rattle.audit_core.specs.path_clashes as path_clashes
pub use Rattle.candidate_core.specs as candidate_core
pub use Rattle.candidate_core.specs.adb_schema as adb_schema
pub use Rattle.change_inputs.specs as change_inputs
pub use Rattle.change_inputs.specs.adb_sound as adb_sound
pub use Rattle.change_inputs.specs.db_core as db_core
pub use Rattle.change_inputs.specs.v2_core as v2_core
pub use Rattle.file_owners.specs as file_owners
pub use Rattle.file_owners.specs.path_claims as path_claims
pub use Rattle.query_core.specs as query_core
-- cited by the contract of `apk`
pub mod ReportForCommand
pub mod InfoResult
pub mod InfoForm
pub mod InfoPackages
pub mod Info
pub mod AuditResult
pub mod QueryResult
-- what only the laws say
pub mod InfoRefusals
