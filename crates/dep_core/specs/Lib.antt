-- The definitions of this crate. The head of each file names the section with its rule.
-- cited by the contract of `apk`
pub mod Dependency
pub mod DependencyText
pub mod Reading
pub mod Value
pub mod ValueReading
pub mod LeadingSlash
pub mod Meets
pub mod World
pub mod Repositories
-- used by inner contracts and proofs only
pub mod Spelling
pub mod Entries
pub mod RepositoryText
pub mod Faults
pub mod Found
