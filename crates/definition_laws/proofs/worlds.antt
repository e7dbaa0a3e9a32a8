-- lemmas of the laws of `src/worlds.rt`
pub mod NewWorlds
pub mod ReadWorlds
pub mod Simulations
pub mod NextNeeds
pub mod OneWorld
pub mod OneNeed
pub mod InstalledCounted
pub mod CommandPools
pub mod SatisfiedWorlds
pub mod CommandSelections
pub mod SatisfyingPlaces
pub mod UnsatisfiedCommands
