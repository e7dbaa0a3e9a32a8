-- The order of the entries of an index. The rule is in `docs/commands.md`, "`mkndx PACKAGE..`": "The
-- entries are sorted by name, then by version, then by the text of the version, and then by id".
use Rattle.std.specs.Prelude.{ℕ, List}
use Rattle.std.specs.Ordering.{on, then_cmp}
use Rattle.std.specs.declared.cmp.Ordering.{Ordering}
use Rattle.base_core.specs.ByteOrder.{bytes_cmp}
use Rattle.version_core.specs.Order.{version_cmp}
use Rattle.adb_view.specs.Plain.{Plain}
use Rattle.adb_view.specs.FieldIndexes.{INFO_HASHES_INDEX, INFO_NAME_INDEX, INFO_VERSION_INDEX}
use Rattle.adb_view.specs.Values.{entry_at_index, text_in}

-- the name of the package that an entry of an index is for
abbrev pub name_of_index_entry : Plain → List ℕ
name_of_index_entry entry = text_in (entry_at_index entry INFO_NAME_INDEX)

-- the text of the version of the package that an entry of an index is for
abbrev pub version_of_index_entry : Plain → List ℕ
version_of_index_entry entry = text_in (entry_at_index entry INFO_VERSION_INDEX)

-- the id of the package that an entry of an index is for: the field `hashes` of the entry
abbrev pub id_of_index_entry : Plain → List ℕ
id_of_index_entry entry = text_in (entry_at_index entry INFO_HASHES_INDEX)

-- the order of the entries of an index: by name, then by version, then by the text of the version (byte
-- by byte), then by id
unfoldable pub index_entry_cmp : Plain → Plain → Ordering
index_entry_cmp =
    then_cmp (on name_of_index_entry bytes_cmp)
    (then_cmp (on version_of_index_entry version_cmp)
    (then_cmp (on version_of_index_entry bytes_cmp) (on id_of_index_entry bytes_cmp)))
