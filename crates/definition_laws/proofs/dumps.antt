-- lemmas of the laws of `src/dumps.rt`
pub mod Printed
pub mod Generating
