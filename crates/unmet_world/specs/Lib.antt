-- The definitions of this crate. The rules are in `docs/selection.md`, "What satisfies world" and
-- "`unable to select packages`".

pub mod Exclusion
pub mod Refutation
pub mod Similar
pub mod Lines
pub mod Explained
