use Rattle.std.proofs.Common.{refl}
use Rattle.adb_view.specs.Plain.{none, more, array_or_null, trimmed_object_or_null}
use Rattle.adb_copy.proofs.adb_values.Lists.{closed}
use Rattle.db_core.specs.Seen.{members_of}
use Rattle.db_core.specs.NewDatabase.{database_value, packages_in_new_database}
use Rattle.db_core.proofs.database.write_database.Goals as goal

pub returns : goal.returns
unfolding database_value
returns c =
    closed trimmed_object_or_null (more (array_or_null (packages_in_new_database (members_of c.args.members.now) c.args.flags.now)) none) c.args.draft.now _ _ c.close_object.result c.close_object.ensures.ok
    (rw (c.in_ok-write_packages.ensures, c.in_ok-open_list.ensures.ok) refl)
