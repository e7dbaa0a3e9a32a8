-- The result of a search for the first clash of a change.
-- The rule is in `docs/commands.md`, "What a change does with files", test 2: the first pair in
-- byte order is reported.
use Rattle.std.specs.Prelude.{Option, Some, None}
use Rattle.base_core.specs.Files.{Files}
use Rattle.path_clashes.specs.Clash.{HasNoClash, IsFirstClash, NameChange, NamePair}

-- the option is the result of a search for the first clash of the change over these files: the first clash, or None
-- if there is none
abbrev pub IsFirstClashOrNone : NameChange → Files → Option NamePair → Type 0
IsFirstClashOrNone change files None = HasNoClash change files
IsFirstClashOrNone change files (Some pair) = IsFirstClash change files pair

-- There are files over which `found` is the first clash of the change, or None if there is none. So if it is None, the
-- written names alone make no clash.
abbrev pub IsFirstClashOverSomeFiles : NameChange → Option NamePair → Type 0
IsFirstClashOverSomeFiles change found = (files : Files) × IsFirstClashOrNone change files found
