-- lemmas of the laws of `src/containers.rt`
pub mod FirstHeader
pub mod FirstTests
pub mod EveryTest
