-- re-exported crates: a crate that depends on this one can use their definitions without depending on them too
pub use Rattle.audit_core.proofs.path_clashes as path_clashes
pub use Rattle.change_inputs.proofs.adb_sound as adb_sound
pub use Rattle.file_owners.proofs as file_owners
pub mod ReportSteps
pub mod AuditSteps
pub mod Others
mod Found
mod LineSteps
pub mod Listers
mod NoName
mod OperandSteps
pub mod Refusing
mod Worked
