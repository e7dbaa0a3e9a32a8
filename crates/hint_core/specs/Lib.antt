-- what a refusal is about, and what its numbers stand for
pub mod Hints
pub mod Repositories
pub mod Lines
pub mod Told
pub mod Contents
pub mod PackageFile
-- what the law says of hints
pub mod Truths
-- what a command that was carried out is warned of
pub mod Warnings
