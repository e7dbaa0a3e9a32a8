-- Nothing changed: each package is kept, and owns all files that it lists.
-- The rule is in `docs/formats.md`, "The database after a change", the last sentence. It serves the
-- laws `a_database_without_changes_stays_the_same` and `a_written_database_is_written_again_alike`.
use Rattle.std.specs.Prelude.{Bool, true, List, replicate}
use Rattle.db_core.specs.Members.{Member}
use Rattle.db_core.specs.NewDatabase.{member_file_count, total_of}

-- a flag for each file that members list, all set
abbrev pub set_flags_of_all_listed_files : List Member → List Bool
set_flags_of_all_listed_files members = replicate (total_of member_file_count members) true
