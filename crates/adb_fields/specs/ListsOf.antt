-- The payload and the table of the lists that a `KnownLists` remembers. Serves the contract of `KnownLists`.
use Rattle.std.specs.Prelude.{◌≡◌}
use Rattle.adb_view.specs.declared.adb.Adb.{Adb}
use Rattle.adb_view.specs.declared.tables.Which.{Which}
use Rattle.adb_fields.specs.declared.known_lists.KnownLists.{KnownLists}

-- `lists` remembers lists of objects of the table `which` in the payload of `adb`
abbrev pub AreRememberedListsOf : Adb → Which → KnownLists → Type 0
AreRememberedListsOf adb which lists = (lists.adb ≡ adb) × (lists.which ≡ which)
