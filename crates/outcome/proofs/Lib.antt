-- re-exported crates: a crate that depends on this one can use their definitions without depending on them too
pub use Rattle.engine_core.proofs.journal_intent as journal_intent
pub use Rattle.engine_core.proofs.own_core as own_core
pub use Rattle.gen_core.proofs.adb_dump as adb_dump
pub use Rattle.make_core.proofs as make_core
pub use Rattle.tell_core.proofs as tell_core
pub use Rattle.tell_core.proofs.adb_sound as adb_sound
pub use Rattle.tell_core.proofs.file_owners as file_owners
pub use Rattle.tell_core.proofs.path_clashes as path_clashes
pub mod Clashes
pub mod Listings
pub mod Recovered
pub mod Applets
pub mod Existing
pub mod MadeSound
pub mod Commits
pub mod Idle
pub mod Looking
mod Everywhere
pub mod RefusedCommits
pub mod NextRoom
pub mod Ends
pub mod PackageRefusals
pub mod Recovering
pub mod Tellers
pub mod IntentRefusals
pub mod FirstSelections
pub mod Demos
pub mod DemoLengths
mod DemoNumbers
pub mod Lacking
pub mod Worded
mod Worked
mod WorkedDemo
