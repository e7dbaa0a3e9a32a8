-- What an entry of the members denotes, by a payload, a package's word in it, and an id; and the
-- payload of a database.
-- No document has a rule for this: it serves the contracts of `src/members.rt`.
use Rattle.std.specs.Prelude.{ℕ, Bool, List, [], Option, Some, None, ◌||◌, bytes_eq, is_some}
use Rattle.pkg_core.specs.adb_schema.declared.checked.IdbView.{IdbView}
use Rattle.adb_view.specs.Values.{value_at}
use Rattle.adb_view.specs.Adb.{payload_of}
use Rattle.adb_view.specs.declared.tables.Kind.TheVariants.{Obj}
use Rattle.adb_view.specs.declared.tables.Which.TheVariants.{Package}
use Rattle.db_core.specs.Members.{Member}

-- the member that an entry represents: a payload, the word of the package in it, and an id, which a
-- kept package does not have
abbrev pub member_of_entry : List ℕ × ℕ × Option (List ℕ) → Member
member_of_entry e = record { pkg = value_at e.0 (Obj Package) e.1; id = e.2 }

-- the payload that the packages of a database are read from; no bytes if there is no database
abbrev pub payload_of_database : Option IdbView → List ℕ
payload_of_database None = []
payload_of_database (Some idb) = payload_of idb.adb

-- whether the entry `e` (its parts are as in *member_of_entry*) is that of an added package, which has an id, or is
-- read from this payload
abbrev pub is_added_or_has_payload : List ℕ → List ℕ × ℕ × Option (List ℕ) → Bool
is_added_or_has_payload payload e = is_some e.2 || bytes_eq e.0 payload
