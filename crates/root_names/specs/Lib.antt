-- The definitions of `root_names`. The head of each file names the section with its rule.

-- cited by the contract of `apk`
pub mod PackagePath
pub mod RootNames
