-- lemmas of the laws of `src/making/`
pub mod Access
pub mod MadeFrom
pub mod NamesRising
pub mod FoldersOver
pub mod SizesTold
pub mod ScriptsGiven
pub mod EntryFields
pub mod FileBytes
pub mod FieldValues
pub mod OptionTexts
pub mod TakenOptions
pub mod ToldFields
