-- The result of a command that changes the installed packages. The rules are in `docs/commands.md`, "`add` and `del`",
-- parts "What is written", "What is reported" and "What is refused" (in this order).
use Rattle.std.specs.Prelude.{◌≡◌, ℕ, ◌==◌, Bool, true, false, not, ◌||◌, List, [], ◌∷◌, ◌++◌, length, map, sum_by, Option, Some, None, Result, Ok, Err, bytes_eq, slice_get, unwrap_or}
use Rattle.std.specs.Option.{option_map_or}
use Rattle.adb_view.specs.FieldIndexes.{INFO_INSTALLED_SIZE_INDEX, PACKAGE_INFO_INDEX}
use Rattle.adb_view.specs.Values.{entry_at_index, int_in}
use Rattle.db_core.specs.adb_write.Canonical.{ByteAndValueCounts, counts_at_first_overflow}
use Rattle.base_core.specs.Files.{Files}
use Rattle.package_changes.specs.own_core.FileChange.{FileChange}
use Rattle.package_changes.specs.own_core.FilesAfter.{DatabaseAndWorldAfter, files_after_change, listing_bytes}
use Rattle.package_changes.specs.own_core.NamesAfter.{name_change}
use Rattle.package_changes.specs.own_core.PlanLists.{paths_with_apk_new_file, file_writes_of, first_reserved_added_path_in_byte_order, kept_left_over_paths_of, sorted_distinct_names, removals_of}
use Rattle.change_inputs.specs.Chains.{and_then}
use Rattle.change_inputs.specs.Inputs.{Inputs}
use Rattle.db_core.specs.Members.{Member, member_name}
use Rattle.db_core.specs.NewDatabase.{database_of}
use Rattle.dep_core.specs.World.{world_text}
use Rattle.package_changes.specs.file_owners.Owners.{first_contested_member_path_in_byte_order, owned_flags_of}
use Rattle.journal_core.specs.journal_intent.Intent.{Intent}
use Rattle.journal_core.specs.journal_intent.IntentValue.{value_of_intent}
use Rattle.change_inputs.specs.make_info.Reads.{Reads}
use Rattle.package_changes.specs.Changes.{Replacement, changes_of}
use Rattle.package_changes.specs.Report.{lines_on_names_that_stay}
use Rattle.package_changes.specs.path_claims.Claims.{ContestedPath}
use Rattle.package_changes.specs.path_clashes.Clash.{NamePair}
use Rattle.package_changes.specs.path_clashes.FirstClash.{IsFirstClashOrNone}
use Rattle.report_core.specs.Reports.{change_lines, report_line, bytes_and_package_count_text}
use Rattle.report_core.specs.declared.refusal.Refusal.{Refusal}
use Rattle.report_core.specs.declared.refusal.Refusal.TheVariants.{Owned, PathClash, Reserved, ResultTooLarge}
use Rattle.root_names.specs.RootNames.{database_name, text_database_name, world_name}
use Rattle.change_outcome.specs.ConfigurationLines.{lines_of_apk_new_and_kept_paths}
use Rattle.change_outcome.specs.MembersAfter.{MemberFound, found_package_contents, members_after, found_members}
use Rattle.change_outcome.specs.Triggers.{trigger_lines, unless_trigger_due}

-- what a command asks for besides its new world
pub record ChangeWishes : Type 0 where
  -- whether modified configuration files are removed too (`--purge`)
  pub purge : Bool
  -- whether scripts are left out (`--no-scripts`)
  pub no_scripts : Bool
  -- the names that `del` takes out of world
  pub to_remove : List (List ℕ)

-- ---- the files

-- what decides which files a change writes, removes and keeps: the packages before, the found packages after it, and
-- `--purge`
abbrev pub packages_before_and_after_with_purge : Inputs → ChangeWishes → List MemberFound → FileChange
packages_before_and_after_with_purge inputs wishes found = record {
  old = inputs.root.database.packages;
  members = found_members found;
  purge = wishes.purge;
}

-- the result `next`, unless there is a reserved path that an added package lists: it refuses the change
abbrev pub unless_reserved_path : {A : Type 0} → Option (List ℕ) → Result A Refusal → Result A Refusal
unless_reserved_path None next = next
unless_reserved_path (Some path) next = Err (Reserved path)

-- the result `next`, unless there are two names of which one would be a folder of the other after the change
abbrev pub unless_clash : {A : Type 0} → Option NamePair → Result A Refusal → Result A Refusal
unless_clash None next = next
unless_clash (Some pair) next = Err (PathClash pair.path pair.other)

-- the name of the member at a place in the list, counted from 0; empty if there is none
abbrev pub member_name_at_place : List Member → ℕ → List ℕ
member_name_at_place members place = option_map_or member_name (slice_get members place) []

-- the result `next`, unless there is a path without an owner (contested); the refusal names two members that list it
abbrev pub unless_contested :
    {A : Type 0} → List Member → Option ContestedPath → Result A Refusal → Result A Refusal
unless_contested members None next = next
unless_contested members (Some c) next =
    Err (Owned c.path (member_name_at_place members c.rivals.first)
    (member_name_at_place members c.rivals.second))

-- ---- the database and world

-- the value; or the counts (bytes and values) of a value that does not fit into a payload, as a refusal
abbrev pub or_result_too_large : {A : Type 0} → Result A ByteAndValueCounts → Result A Refusal
or_result_too_large (Ok a) = Ok a
or_result_too_large (Err counts) = Err (ResultTooLarge counts.0 counts.1)

-- the value, unless there are counts (bytes and values) that exceed a limit of the writer: these are refused
abbrev pub unless_overflow : {A : Type 0} → Option ByteAndValueCounts → A → Result A Refusal
unless_overflow None a = Ok a
unless_overflow (Some counts) a = Err (ResultTooLarge counts.0 counts.1)

-- whether the file is absent or has other bytes than these, so that these bytes must be written
abbrev pub is_absent_or_different : Option (List ℕ) → List ℕ → Bool
is_absent_or_different None bytes = true
is_absent_or_different (Some old) bytes = not (bytes_eq old bytes)

-- the database and world after a change, given the bytes of the new database
abbrev pub database_and_world_after_change : Inputs → List ℕ → DatabaseAndWorldAfter
database_and_world_after_change inputs database = record {
  database = database;
  world = world_text inputs.root.new_world;
  takes_text_over = inputs.root.database.from_text;
}

-- the list of this name alone if the test is true, and otherwise no names
abbrev pub name_if_needed : Bool → List ℕ → List (List ℕ)
name_if_needed true name = name ∷ []
name_if_needed false name = []

-- the names of the database and of world, each if its file is written: the database's if it is absent or differs,
-- world's if its text differs (an absent file of world counts as empty)
abbrev pub names_of_written_database_and_world : Inputs → DatabaseAndWorldAfter → List (List ℕ)
names_of_written_database_and_world inputs records =
    name_if_needed (is_absent_or_different inputs.root.database.file records.database) database_name
    ++ name_if_needed (not (bytes_eq inputs.root.world_text records.world)) world_name

-- ---- what is done, as two lists of names in byte order

-- The intent (journal entry) of a change: the names that it removes, and those that it writes, each in byte order. A
-- text database that is taken over is removed with the files of packages. The database and world are written with
-- them, if they differ. `records` are the database and world after the change.
abbrev pub intent_of_change : Inputs → FileChange → Files → DatabaseAndWorldAfter → Intent
intent_of_change inputs change files records = record {
  removals = sorted_distinct_names (removals_of change files
      ++ name_if_needed records.takes_text_over text_database_name);
  writes = sorted_distinct_names (map (λ w. w.name) (file_writes_of change files)
      ++ names_of_written_database_and_world inputs records);
}

-- The bytes of the file under a name, or no bytes if there is no file. For each name that a change writes, the
-- staged bytes are those that the files after the change have under it.
abbrev pub bytes_or_empty_under : Files → List ℕ → List ℕ
bytes_or_empty_under files name = unwrap_or (files name) []

-- whether a change removes or writes a name; without any action a change writes nothing, not even an intent
abbrev pub has_actions : Intent → Bool
has_actions actions = not (length actions.removals == 0) || not (length actions.writes == 0)

-- ---- the report

-- the bytes that a package takes when it is installed, by its information
abbrev pub member_installed_size : Member → ℕ
member_installed_size m =
    int_in (entry_at_index (entry_at_index m.pkg PACKAGE_INFO_INDEX) INFO_INSTALLED_SIZE_INDEX)

-- the last line of a report: how many bytes and packages are installed
abbrev pub member_sum_line : List Member → List ℕ
member_sum_line members =
    report_line (bytes_and_package_count_text (sum_by member_installed_size members) (length members))

-- the names of files of packages that a change writes or removes: a trigger may watch the folders of these names
abbrev pub touched_paths : FileChange → Files → List (List ℕ)
touched_paths change files = map (λ w. w.name) (file_writes_of change files) ++ removals_of change files

-- The report of a change. It has these lines, in this order: one for each package that changes, for each kept name that
-- was to be removed, for each modified configuration file, and for each due trigger; and the sums.
abbrev pub change_report : Replacement → ChangeWishes → FileChange → Files → List ℕ
change_report r wishes change files =
    change_lines (changes_of r) ++ lines_on_names_that_stay r.before r.selected wishes.to_remove
    ++ lines_of_apk_new_and_kept_paths (paths_with_apk_new_file change files)
    (kept_left_over_paths_of change files)
    ++ trigger_lines (touched_paths change files) change.members ++ member_sum_line change.members

-- ---- the change

-- the result of a change
pub record ChangeDone : Type 0 where
  -- the bytes that are printed
  pub report : List ℕ
  -- the files that the change leaves
  pub files : Files
  -- whether the change writes or removes anything
  pub commits : Bool

-- the result of a change that is made: its report, the files that it leaves, and whether it writes or removes any file.
-- `found` are the packages after it, `files` the files before it, and `records` the new database and world
abbrev pub change_done :
    Inputs → Replacement → ChangeWishes → List MemberFound → Files → DatabaseAndWorldAfter → ChangeDone
change_done inputs r wishes found files records =
    let change = packages_before_and_after_with_purge inputs wishes found in
    record {
      report = change_report r wishes change files;
      files = files_after_change change (listing_bytes (found_package_contents found)) records files;
      commits = has_actions (intent_of_change inputs change files records);
    }

-- a change that is made, unless a limit of the writer is exceeded, first by the database and then by
-- the intent
abbrev pub change_done_unless_over_writer_limits :
    Inputs → Replacement → ChangeWishes → List MemberFound → Files → Result ChangeDone Refusal
change_done_unless_over_writer_limits inputs r wishes found files =
    let change = packages_before_and_after_with_purge inputs wishes found in
    and_then (or_result_too_large (database_of change.members (owned_flags_of change.members))) (λ database.
    let records = database_and_world_after_change inputs database in
    let actions = intent_of_change inputs change files records in
    unless_overflow (counts_at_first_overflow (value_of_intent actions))
    (change_done inputs r wishes found files records))

-- The result of a change, given the packages after it (`found`) and the first clash of its names, if there is one. The
-- tests in their order: reserved paths, the clash, contested paths, due triggers, and the limits of the writer.
abbrev pub change_with_members :
    Inputs → Replacement → ChangeWishes → Option NamePair → Files → List MemberFound
    → Result ChangeDone Refusal
change_with_members inputs r wishes clash files found =
    let change = packages_before_and_after_with_purge inputs wishes found in
    unless_reserved_path (first_reserved_added_path_in_byte_order change.members)
    (unless_clash clash
    (unless_contested change.members (first_contested_member_path_in_byte_order change.members)
    (and_then (unless_trigger_due wishes.no_scripts (touched_paths change files) change.members)
    (λ is_allowed. change_done_unless_over_writer_limits inputs r wishes found files))))

-- the packages after a change, or the first refusal of one
abbrev pub members_after_change :
    Inputs → Replacement → ChangeWishes → Reads → Result (List MemberFound) Refusal
members_after_change inputs r wishes read =
    members_after r read inputs.root.repositories wishes.no_scripts

-- The result of the change in which the selected packages of `r` replace the packages before, or its first refusal.
unfoldable pub change_or_refusal :
    Inputs → Replacement → ChangeWishes → Reads → Option NamePair → Files
    → Result ChangeDone Refusal
change_or_refusal inputs r wishes read clash files =
    and_then (members_after_change inputs r wishes read)
    (change_with_members inputs r wishes clash files)

-- ---- the first clash

-- `clash` is the first clash of the names after a change, or None, if the packages after it are found; otherwise None.
-- `files` decide whether a configuration file is kept or a file is written beside it; names clash among
-- `present_files`.
abbrev pub IsFirstClashUnlessMembersRefusedAmong :
    Inputs → ChangeWishes → Files → Files → Result (List MemberFound) Refusal → Option NamePair
    → Type 0
IsFirstClashUnlessMembersRefusedAmong inputs wishes files present_files (Ok found) clash =
    IsFirstClashOrNone (name_change
    (packages_before_and_after_with_purge inputs wishes found) files) present_files clash
IsFirstClashUnlessMembersRefusedAmong inputs wishes files present_files (Err refusal) clash = clash ≡ None

-- *IsFirstClashUnlessMembersRefusedAmong* for the packages that the reads find
abbrev pub IsFirstClashOfChangeAmong :
    Inputs → Replacement → ChangeWishes → Reads → Files → Files → Option NamePair → Type 0
IsFirstClashOfChangeAmong inputs r wishes read files present_files clash =
    IsFirstClashUnlessMembersRefusedAmong inputs wishes files present_files
    (members_after_change inputs r wishes read) clash

-- *IsFirstClashUnlessMembersRefusedAmong*, with the same files as `present_files`, as on an observable tree
abbrev pub IsFirstClashUnlessMembersRefused :
    Inputs → ChangeWishes → Files → Result (List MemberFound) Refusal → Option NamePair → Type 0
IsFirstClashUnlessMembersRefused inputs wishes files members clash =
    IsFirstClashUnlessMembersRefusedAmong inputs wishes files files members clash

-- *IsFirstClashOfChangeAmong*, with the same files as `present_files`, as on an observable tree
abbrev pub IsFirstClashOfChange :
    Inputs → Replacement → ChangeWishes → Reads → Files → Option NamePair → Type 0
IsFirstClashOfChange inputs r wishes read files clash =
    IsFirstClashOfChangeAmong inputs r wishes read files files clash
