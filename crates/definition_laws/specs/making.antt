-- Cited by the laws of `src/making/`. The rules are in `docs/commands.md`, "`mkpkg`".
pub mod NamedFields
pub mod MadePackages
pub mod SourceBytes
pub mod ScriptFiles
pub mod OptionGrammar
pub mod SaidOfFields
