-- cited by the laws of `src/containers.rt`
pub mod HeaderFaults
pub mod TestsInOrder
