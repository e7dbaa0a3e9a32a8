-- The definitions of this crate. The head of each file names the section with its rule. Cited by the
-- contract of `apk`:
pub mod Numbers
pub mod Texts
pub mod Reports
pub mod AuditReports
pub mod QueryReports
-- used by inner contracts and proofs only
pub mod Pieces
