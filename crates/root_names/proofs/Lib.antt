mod FolderPrefixes
pub mod RootNamesAreNames
mod Worked
