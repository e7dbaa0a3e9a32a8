-- The numbers by which refusals name a field of a package's information and a script: the numbers in tables 3 and 6 of
-- `docs/formats.md`, "Schemas", which count from 1.
use Rattle.std.specs.Prelude.{ℕ}

-- the number of *name* in a package info
abbrev pub NAME_FIELD : ℕ
NAME_FIELD = 1

-- the number of *version* in a package info
abbrev pub VERSION_FIELD : ℕ
VERSION_FIELD = 2

-- the number of *hashes* in a package info, in which an index has the id
abbrev pub HASHES_FIELD : ℕ
HASHES_FIELD = 3

-- the number of the script *trigger*
abbrev pub TRIGGER_SCRIPT : ℕ
TRIGGER_SCRIPT = 1

-- the number of the script *pre-install*
abbrev pub PRE_INSTALL_SCRIPT : ℕ
PRE_INSTALL_SCRIPT = 2

-- the number of the script *post-install*
abbrev pub POST_INSTALL_SCRIPT : ℕ
POST_INSTALL_SCRIPT = 3

-- the number of the script *pre-deinstall*
abbrev pub PRE_DEINSTALL_SCRIPT : ℕ
PRE_DEINSTALL_SCRIPT = 4

-- the number of the script *post-deinstall*
abbrev pub POST_DEINSTALL_SCRIPT : ℕ
POST_DEINSTALL_SCRIPT = 5

-- the number of the script *pre-upgrade*
abbrev pub PRE_UPGRADE_SCRIPT : ℕ
PRE_UPGRADE_SCRIPT = 6

-- the number of the script *post-upgrade*
abbrev pub POST_UPGRADE_SCRIPT : ℕ
POST_UPGRADE_SCRIPT = 7
