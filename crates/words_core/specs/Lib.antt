-- The definitions of this crate. The head of each file names the section with its rule. Cited by the
-- contract of `apk`:
pub mod Options
pub mod Grammar
pub mod HelpTexts
-- used by inner contracts and proofs only
pub mod Usage
pub mod Rows
pub mod Steps
pub mod Faults
pub mod Lines
pub mod Asked
pub mod Stuck
pub mod Kinds
pub mod Reasons
pub mod Explained
