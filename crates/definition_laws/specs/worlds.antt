-- cited by the laws of `src/worlds.rt`
pub mod NewWorld
pub mod CommandPool
pub mod NextNeed
pub mod SatisfiedWorld
pub mod Simulation
