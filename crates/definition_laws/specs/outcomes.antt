-- cited by the laws of `src/outcomes/`
pub mod TestedFiles
pub mod DumpedFiles
pub mod CheckedVersions
pub mod DemoLines
pub mod MadeFiles
