-- lemmas of the laws of `src/roots.rt`
mod NewWorld
mod Unreserved
mod TextLines
mod TextRecords
mod TextNormal
mod SoundBefore
mod MembersFound
mod DatabaseLeft
mod RootLeft
mod NextInputs
