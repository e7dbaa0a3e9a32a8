-- What a database and the members of the program denote.
-- No document has a rule for this: contracts use these to speak of a database and of members.
use Rattle.std.specs.Prelude.{ℕ, List, option_map, map}
use Rattle.adb_view.specs.Plain.{Plain}
use Rattle.pkg_core.specs.adb_schema.Views.{idb_value}
use Rattle.db_core.specs.EntrySeen.{member_of_entry, payload_of_database}
use Rattle.db_core.specs.Members.{Member}
use Rattle.db_core.specs.Packages.{packages_of_database_value}
use Rattle.db_core.specs.declared.db.Db.{Db}
use Rattle.db_core.specs.declared.members.Members.{Members}

-- the packages of a database, in its order
abbrev pub packages_of : Db → List Plain
packages_of db = packages_of_database_value (option_map idb_value db.idb)

-- the members of the program, in their order
abbrev pub members_of : Members → List Member
members_of members = map member_of_entry members.entries.items

-- the packages of the database of the kept members, in its order
abbrev pub packages_of_old_database : Members → List Plain
packages_of_old_database members = packages_of members.db.now

-- the payload from which the packages of that database are read
abbrev pub payload_of_old_database : Members → List ℕ
payload_of_old_database members = payload_of_database members.db.now.idb
