-- A change that is not refused. It serves the law `a_change_that_is_made_passes_each_test`; the tests
-- are defined in `docs/commands.md`, "What a change does with files".
use Rattle.std.specs.Prelude.{◌≡◌, ℕ, List, Option, None, Ok}
use Rattle.db_core.specs.adb_write.Canonical.{counts_at_first_overflow}
use Rattle.base_core.specs.Files.{Files}
use Rattle.package_changes.specs.own_core.PlanLists.{first_reserved_added_path_in_byte_order}
use Rattle.change_inputs.specs.Inputs.{Inputs}
use Rattle.change_outcome.specs.ChangeOutcome.{ChangeDone, ChangeWishes, intent_of_change, change_done, members_after_change, packages_before_and_after_with_purge, database_and_world_after_change}
use Rattle.change_outcome.specs.MembersAfter.{MemberFound, found_members}
use Rattle.db_core.specs.NewDatabase.{database_of}
use Rattle.package_changes.specs.file_owners.Owners.{first_contested_member_path_in_byte_order, owned_flags_of}
use Rattle.journal_core.specs.journal_intent.IntentValue.{value_of_intent}
use Rattle.change_inputs.specs.make_info.Reads.{Reads}
use Rattle.package_changes.specs.Changes.{Replacement}
use Rattle.package_changes.specs.path_clashes.Clash.{NamePair}

-- the packages after a change are found, the change passes each test, and `done` is its result
pub record IsChangeMade (inputs : Inputs) (r : Replacement) (wishes : ChangeWishes) (read : Reads)
    (clash : Option NamePair) (files : Files) (done : ChangeDone) : Type 0 where
  -- the packages after the change
  pub found : List MemberFound
  -- the packages after the change are found
  pub members : members_after_change inputs r wishes read ≡ Ok found
  -- no added package lists a reserved path
  pub unreserved : first_reserved_added_path_in_byte_order (found_members found) ≡ None
  -- no name after the change is a folder of another
  pub no_clash : clash ≡ None
  -- each path has an owner
  pub uncontested : first_contested_member_path_in_byte_order (found_members found) ≡ None
  -- the bytes of the new database, which exceeds no limit of the writer
  pub database : List ℕ
  -- the database of these packages has these bytes
  pub new_database : database_of (found_members found) (owned_flags_of (found_members found))
      ≡ Ok database
  -- the journal entry (intent) exceeds no limit of the writer
  pub fits : (let actions =
      intent_of_change inputs (packages_before_and_after_with_purge inputs wishes found) files
      (database_and_world_after_change inputs database) in
      counts_at_first_overflow (value_of_intent actions) ≡ None)
  -- `done` is the result of the change
  pub is : done ≡ change_done inputs r wishes found files (database_and_world_after_change inputs database)
