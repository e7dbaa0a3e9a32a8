-- The definitions that the laws cite, in a folder for each subject. The laws on dump texts have none of their own.
pub mod containers
pub mod making
pub mod answers
pub mod worlds
pub mod roots
pub mod audits
pub mod outcomes
