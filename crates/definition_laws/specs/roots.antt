-- cited by the laws of `src/roots.rt` on later runs
pub mod RootLeft
pub mod NextInputs
