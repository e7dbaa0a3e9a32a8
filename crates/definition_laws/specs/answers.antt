-- cited by the laws of `src/answers/`
pub mod WhichChange
pub mod KeptNames
pub mod FirstScripts
pub mod ScriptTexts
pub mod SameIds
pub mod EntryFields
pub mod DueTriggers
pub mod InfoAnswers
pub mod ReplacesEntries
pub mod FoundFiles
pub mod ReportSections
pub mod TextLetters
pub mod TextFiles
pub mod ManifestLines
pub mod QueryLines
