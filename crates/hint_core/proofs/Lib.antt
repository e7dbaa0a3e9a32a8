pub mod Steps
pub mod LinesFound
pub mod So
pub mod WarningSteps
pub mod Mixed
pub mod PackageSteps
pub mod ReadSteps
pub mod Fields
