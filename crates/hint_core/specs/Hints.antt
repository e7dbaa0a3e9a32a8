-- What a refusal is about, and what its numbers stand for. In all definitions, `words` are all words of the command
-- line. `found` has the bytes of the file that the refusal is about, if it is about one and this file was found. The
-- rules are in `docs/commands.md`, "Hints".
use Rattle.std.specs.Prelude.{ℕ, ◌-◌, ◌/◌, ◌%◌, ◌==◌, Bool, true, false, if◌then◌else◌, List, Option, Some, None, is_some, Result, Ok, Err}
use Rattle.std.specs.List.{slice_get}
use Rattle.adb_view.specs.Schema.{table}
use Rattle.adb_view.specs.declared.tables.Field.{Field}
use Rattle.adb_view.specs.declared.tables.Which.{Which}
use Rattle.adb_view.specs.declared.tables.Which.TheVariants as Tables
use Rattle.base_core.specs.declared.cause.Cause.{Cause}
use Rattle.base_core.specs.declared.cause.Cause.TheVariants.{BadText, Compressed, DataSize, HashDiffers, NotAdb, Repeated, TextLine, Truncated, WrongSchema}
use Rattle.command_core.specs.Command.{CommandLine}
use Rattle.command_core.specs.declared.command.Applet.{Applet}
use Rattle.command_core.specs.declared.command.Applet.TheVariants.{Demo, Fix}
use Rattle.dep_core.specs.World.{lines_of}
use Rattle.pkg_core.specs.Whole.{table_of_schema}
use Rattle.report_core.specs.declared.refusal.Refusal.{Refusal}
use Rattle.report_core.specs.declared.refusal.Refusal.TheVariants.{IntentBad, FileMissing, FileBad, TextBad, VersionBad, InfoBad, NoDatabase, DatabaseBad, WorldBad, RepositoriesBad, Untrusted, IndexMissing, IndexBad, NotInstalled, Owned, PackageMissing, PackageBad, PackageDiffers}
use Rattle.root_names.specs.RootNames.{database_name, repositories_name, text_database_name, world_name}
use Rattle.words_core.specs.Grammar.{command_of}
use Rattle.hint_core.specs.declared.find.RepositoryLine.{RepositoryLine}
use Rattle.hint_core.specs.declared.hint.Hint.{Hint}
use Rattle.hint_core.specs.declared.hint.Hint.TheVariants as Hinted
use Rattle.hint_core.specs.declared.hint.HintFile.{HintFile}
use Rattle.hint_core.specs.declared.hint.HintFile.TheVariants as Files
use Rattle.hint_core.specs.declared.hint.Hints.{Hints}
use Rattle.hint_core.specs.declared.hint.Subject.{Subject}
use Rattle.hint_core.specs.declared.hint.Subject.TheVariants.{Word, Information, Repository, Line, Database, AbsentDatabase, SharedPath, Nothing}
use Rattle.hint_core.specs.declared.hint.Subject.TheVariants as Subjects
use Rattle.hint_core.specs.Repositories.{repository_at}

-- ---- what a refusal is about

-- whether the refusals of a command are about its own words: those of `demo` are not
abbrev pub has_refusals_of_its_own : Applet → Bool
has_refusals_of_its_own Demo = false
has_refusals_of_its_own applet = true

-- whether hints explain the refusals of a command line: it is a command whose refusals are about its own words
abbrev pub is_explained : Result CommandLine ℕ → Bool
is_explained (Ok command) = has_refusals_of_its_own command.applet
is_explained (Err place) = false

-- whether the applet is `fix`, which installs packages again
abbrev pub is_fix_applet : Applet → Bool
is_fix_applet Fix = true
is_fix_applet applet = false

-- whether a command line is a command with the applet `fix`
abbrev pub is_fix : Result CommandLine ℕ → Bool
is_fix (Ok command) = is_fix_applet command.applet
is_fix (Err place) = false

-- whether a command line is a command that asks which package owns a path
abbrev pub asks_for_owner : Result CommandLine ℕ → Bool
asks_for_owner (Ok command) = command.flags.who_owns
asks_for_owner (Err place) = false

-- what the refusal of a database for this cause is about: a line of the text database, or else the database
abbrev pub database_subject : Cause → Subject
database_subject (TextLine line) = Line Files.TextDatabase line
database_subject cause = Database

-- what a refusal is about
abbrev pub subject_of : Refusal → Subject
subject_of (IntentBad cause) = Subjects.Journal
subject_of (FileMissing place) = Subjects.AbsentFile place
subject_of (FileBad place cause) = Word place
subject_of (TextBad place line) = Word place
subject_of (VersionBad place) = Word place
subject_of (NotInstalled place) = Subjects.NotInstalled place
subject_of (InfoBad place) = Information place
subject_of (IndexMissing number) = Repository number
subject_of (IndexBad number cause) = Repository number
subject_of (WorldBad line) = Line Files.World line
subject_of (RepositoriesBad line) = Line Files.Repositories line
subject_of NoDatabase = AbsentDatabase
subject_of Untrusted = Subjects.Untrusted
subject_of (PackageMissing name version) = Subjects.AbsentPackage
subject_of (PackageDiffers name version field wanted found) = Subjects.OtherPackage
subject_of (Owned path first second) = SharedPath
subject_of (DatabaseBad cause) = database_subject cause
subject_of refusal = Nothing

-- the name of a file of which refusals report lines by their numbers
abbrev pub hint_file_name : HintFile → List ℕ
hint_file_name Files.World = world_name
hint_file_name Files.Repositories = repositories_name
hint_file_name Files.TextDatabase = text_database_name

-- the name of the file that a refusal with this subject is about, if it is about one
abbrev pub subject_file : Subject → Option (List ℕ)
subject_file (Repository number) = Some repositories_name
subject_file (Line file line) = Some (hint_file_name file)
subject_file Database = Some database_name
subject_file AbsentDatabase = Some database_name
subject_file subject = None

-- the cause of a refusal, if it has one
abbrev pub cause_of : Refusal → Option Cause
cause_of (IntentBad cause) = Some cause
cause_of (FileBad place cause) = Some cause
cause_of (DatabaseBad cause) = Some cause
cause_of (IndexBad number cause) = Some cause
cause_of (PackageBad name version cause) = Some cause
cause_of refusal = None

-- the place of a field that a cause names, if it names one
abbrev pub cause_place : Cause → Option ℕ
cause_place (BadText place) = Some place
cause_place (Repeated place first second) = Some place
cause_place cause = None

-- ---- the hint on what a refusal is about

-- the hint on the word at a place; none if there is no such word
abbrev pub word_hint : ℕ → Option (List ℕ) → Hint
word_hint place (Some word) = Hinted.Word place word
word_hint place None = Hinted.Nothing

-- the hint that the word at a place names no file; none if there is no such word
abbrev pub absent_file_hint : ℕ → Option (List ℕ) → Hint
absent_file_hint place (Some word) = Hinted.AbsentFile place word
absent_file_hint place None = Hinted.Nothing

-- the hint that the word at a place is a path that no package owns; none if there is no such word
abbrev pub unowned_hint : ℕ → Option (List ℕ) → Hint
unowned_hint place (Some word) = Hinted.Unowned place word
unowned_hint place None = Hinted.Nothing

-- the hint that the word at a place is a path that no package owns, if the words ask for an owner (true); otherwise
-- that it names a package that is not installed
abbrev pub not_installed_hint : Bool → ℕ → Option (List ℕ) → Hint
not_installed_hint true place word = unowned_hint place word
not_installed_hint false place word = word_hint place word

-- the hint that the word at a place is no valid information of a package; without a word, that information is missing
abbrev pub information_hint : ℕ → Option (List ℕ) → Hint
information_hint place (Some word) = Hinted.Information place word
information_hint place None = Hinted.Missing place

-- the hint on a repository, if the line that names it was found; otherwise no hint
abbrev pub repository_hint_if_found : ℕ → Option RepositoryLine → Hint
repository_hint_if_found number (Some found) = Hinted.Repository number found.line found.path
repository_hint_if_found number None = Hinted.Nothing

-- the hint on the repository with a number, by the text of the list of repositories; none if it is not found
abbrev pub repository_hint : ℕ → Option (List ℕ) → Hint
repository_hint number (Some text) =
    repository_hint_if_found number (repository_at number 1 (lines_of text))
repository_hint number None = Hinted.Nothing

-- the hint on a line of a file, if the line was found; otherwise no hint
abbrev pub line_hint_if_found : HintFile → ℕ → Option (List ℕ) → Hint
line_hint_if_found file line (Some text) = Hinted.Line file line text
line_hint_if_found file line None = Hinted.Nothing

-- the hint on the line with a number, counted from 1, by the text of its file; none if it is not found
abbrev pub line_hint : HintFile → ℕ → Option (List ℕ) → Hint
line_hint file line (Some text) = line_hint_if_found file line (slice_get (lines_of text) (line - 1))
line_hint file line None = Hinted.Nothing

-- the hint that there is no database; none if a database is found now (true)
abbrev pub absent_database_hint : Bool → Hint
absent_database_hint true = Hinted.Nothing
absent_database_hint false = Hinted.AbsentDatabase

-- the hint on the absent file of a package; only `fix` (true) gets one, since it needs an index that lists the
-- installed package
abbrev pub absent_package_hint : Bool → Hint
absent_package_hint true = Hinted.AbsentPackage
absent_package_hint false = Hinted.Nothing

-- the hint on what a refusal is about
abbrev pub subject_hint : List (List ℕ) → Option (List ℕ) → Subject → Hint
subject_hint words found (Word place) = word_hint place (slice_get words (place - 1))
subject_hint words found (Information place) = information_hint place (slice_get words (place - 1))
subject_hint words found (Repository number) = repository_hint number found
subject_hint words found (Line file line) = line_hint file line found
subject_hint words found Database = Hinted.Database (is_some found)
subject_hint words found AbsentDatabase = absent_database_hint (is_some found)
subject_hint words found SharedPath = Hinted.SharedPath
subject_hint words found (Subjects.AbsentFile place) = absent_file_hint place (slice_get words (place - 1))
subject_hint words found (Subjects.NotInstalled place) =
    not_installed_hint (asks_for_owner (command_of words)) place (slice_get words (place - 1))
subject_hint words found Subjects.Journal = Hinted.Journal
subject_hint words found Subjects.Untrusted = Hinted.Untrusted
subject_hint words found Subjects.AbsentPackage = absent_package_hint (is_fix (command_of words))
subject_hint words found Subjects.OtherPackage = Hinted.OtherPackage
subject_hint words found Nothing = Hinted.Nothing

-- ---- the field at a place

-- the table with a number, as in `docs/formats.md`, "Schemas"; None if no table has it
abbrev pub table_numbered : ℕ → Option Which
table_numbered number =
    if number == 1 then Some Tables.Dep else
    if number == 2 then Some Tables.Acl else
    if number == 3 then Some Tables.PkgInfo else
    if number == 4 then Some Tables.File else
    if number == 5 then Some Tables.Dir else
    if number == 6 then Some Tables.Scripts else
    if number == 7 then Some Tables.Package else
    if number == 8 then Some Tables.Index else
    if number == 9 then Some Tables.Idb else
    if number == 10 then Some Tables.Intent else None

-- the hint on a field, if the table has one at the place; otherwise no hint
abbrev pub field_hint_if_found : ℕ → Which → Option Field → Hint
field_hint_if_found place which (Some field) = Hinted.Field place which field.name
field_hint_if_found place which None = Hinted.Nothing

-- the hint on the field at a place, which is in this table; the field's number, counted from 1, is the rest of the
-- place after division by 100
abbrev pub field_hint_in_table : ℕ → Which → Hint
field_hint_in_table place which =
    if place % 100 == 0 then Hinted.Nothing else
    field_hint_if_found place which (slice_get (table which) (place % 100 - 1))

-- the hint on the field at a place, by the table with the number that the place has, if there is one
abbrev pub field_hint : ℕ → Option Which → Hint
field_hint place (Some which) = field_hint_in_table place which
field_hint place None = Hinted.Nothing

-- the hint on the field at a place: 100 times the number of its table plus its own
abbrev pub place_hint : ℕ → Hint
place_hint place = field_hint place (table_numbered (place / 100))

-- ---- the schema of a container

-- the hint on a schema, by the table that has it: *UnknownSchema* if none has
abbrev pub schema_hint_if_found : Option Which → Hint
schema_hint_if_found (Some which) = Hinted.Schema which
schema_hint_if_found None = Hinted.UnknownSchema

-- the hint on a schema: the table at the root of a container with this schema, if it is one of the four
abbrev pub schema_hint : ℕ → Hint
schema_hint schema = schema_hint_if_found (table_of_schema schema)

-- ---- the number of a cause

-- the hint on the number that a cause names: a field, or a schema; otherwise none
abbrev pub hint_of_cause : Cause → Hint
hint_of_cause (BadText place) = place_hint place
hint_of_cause (Repeated place first second) = place_hint place
hint_of_cause (WrongSchema schema) = schema_hint schema
hint_of_cause cause = Hinted.Nothing

-- the hint on the cause for which a file was refused that can be copied or made again
abbrev pub file_cause_hint : Cause → Hint
file_cause_hint NotAdb = Hinted.Foreign
file_cause_hint Compressed = Hinted.Foreign
file_cause_hint (Truncated at) = Hinted.Damaged
file_cause_hint (DataSize wanted found) = Hinted.Damaged
file_cause_hint (HashDiffers wanted found) = Hinted.Damaged
file_cause_hint cause = hint_of_cause cause

-- the hint on the cause of a refusal; none if it has no cause
abbrev pub cause_hint : Refusal → Hint
cause_hint (IntentBad cause) = hint_of_cause cause
cause_hint (DatabaseBad cause) = hint_of_cause cause
cause_hint (FileBad place cause) = file_cause_hint cause
cause_hint (IndexBad number cause) = file_cause_hint cause
cause_hint (PackageBad name version cause) = file_cause_hint cause
cause_hint refusal = Hinted.Nothing

-- ---- all hints of a refusal

-- the hints of a refusal of the command line `words`: on what it is about, and on its cause
abbrev pub hints_by_words_and_subject_file : List (List ℕ) → Refusal → Option (List ℕ) → Hints
hints_by_words_and_subject_file words refusal found = record {
  subject = subject_hint words found (subject_of refusal);
  cause = cause_hint refusal;
}
