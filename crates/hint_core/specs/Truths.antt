-- When a hint is true. Serves the law `hints_are_so`; the rules are in `docs/commands.md`, "Hints".
use Rattle.std.specs.Prelude.{◌≡◌, ◌⊎◌, ℕ, ◌+◌, ◌-◌, ◌*◌, ◌<◌, ◌≤◌, true, List, ◌∷◌, length, Option, Some, None, is_some, Ok}
use Rattle.std.specs.List.{slice_get}
use Rattle.std.specs.Option.{option_map}
use Rattle.adb_view.specs.Schema.{table, table_number}
use Rattle.adb_view.specs.declared.tables.Field.{Field}
use Rattle.adb_view.specs.declared.tables.FieldName.{FieldName}
use Rattle.adb_view.specs.declared.tables.Which.{Which}
use Rattle.base_core.specs.declared.cause.Cause.{Cause}
use Rattle.base_core.specs.declared.cause.Cause.TheVariants.{Compressed, DataSize, HashDiffers, NotAdb, Truncated, WrongSchema}
use Rattle.dep_core.specs.Repositories.{Repository, repositories_of}
use Rattle.dep_core.specs.World.{lines_of}
use Rattle.pkg_core.specs.adb_schema.Soundness.{header_schema_if_root_table}
use Rattle.report_core.specs.declared.refusal.Refusal.{Refusal}
use Rattle.words_core.specs.Grammar.{command_of}
use Rattle.hint_core.specs.declared.hint.Hint.{Hint}
use Rattle.hint_core.specs.declared.hint.Hint.TheVariants as Hinted
use Rattle.hint_core.specs.declared.hint.Subject.TheVariants.{Word, Information, Line, Database, AbsentDatabase, SharedPath}
use Rattle.hint_core.specs.declared.hint.Subject.TheVariants as Subjects
use Rattle.hint_core.specs.Hints.{asks_for_owner, cause_of, cause_place, is_fix, subject_of}

-- the refusal is about the word at this place, or about what this word names and is not installed
abbrev pub NamesWord : Refusal → ℕ → Type 0
NamesWord refusal place =
    (subject_of refusal ≡ Word place) ⊎ (subject_of refusal ≡ Subjects.NotInstalled place)

-- the cause is that a file ends too early, or has contents of another size or digest than it lists
abbrev pub IsOfDamage : Cause → Type 0
IsOfDamage (Truncated at) = Unit {0}
IsOfDamage (DataSize wanted found) = Unit {0}
IsOfDamage (HashDiffers wanted found) = Unit {0}
IsOfDamage cause = ⊥

-- the cause is that a file is no container, or a compressed one
abbrev pub IsOfFormat : Cause → Type 0
IsOfFormat NotAdb = Unit {0}
IsOfFormat Compressed = Unit {0}
IsOfFormat cause = ⊥

-- the refusal has a cause that names the field at this place
abbrev pub NamesFieldPlace : Refusal → ℕ → Type 0
NamesFieldPlace refusal place =
    (cause : Cause) × (cause_of refusal ≡ Some cause) × (cause_place cause ≡ Some place)

-- the repository with a number, counted from 1, of the list with this text has this path, if no line of the list is bad
abbrev pub RepositoryHasPath : List ℕ → ℕ → List ℕ → Type 0
RepositoryHasPath text number path =
    (repositories : List Repository) → repositories_of text ≡ Ok repositories
    → option_map (λ repository. repository.path) (slice_get repositories (number - 1)) ≡ Some path

-- the line with this number, counted from 1, of the list with this text names a repository with this path, if it is
-- read alone
abbrev pub NamesPath : List ℕ → ℕ → List ℕ → Type 0
NamesPath text line path =
    (alone : List ℕ) × (found : Repository) × (more : List Repository)
    × (slice_get (lines_of text) (line - 1) ≡ Some alone)
    × (repositories_of alone ≡ Ok (found ∷ more)) × (found.path ≡ path)

-- the field of a table with this number, counted from 1, has this name
abbrev pub HasField : Which → ℕ → FieldName → Type 0
HasField which number name =
    (field : Field) × (slice_get (table which) (number - 1) ≡ Some field) × (field.name ≡ name)

-- a hint is true of the words of a command line, of their refusal, and of the file that the refusal is about, if it was
-- found
abbrev pub IsHintTrueBySubjectFile : List (List ℕ) → Refusal → Option (List ℕ) → Hint → Type 0
-- the word is the one at the place that the refusal names; places count from 1
IsHintTrueBySubjectFile words refusal found (Hinted.Word place word) =
    NamesWord refusal place × (slice_get words (place - 1) ≡ Some word)
-- the refusal is that the word at this place names no file
IsHintTrueBySubjectFile words refusal found (Hinted.AbsentFile place word) =
    (subject_of refusal ≡ Subjects.AbsentFile place) × (slice_get words (place - 1) ≡ Some word)
-- the refusal is that what the word at this place names is not installed, and the words ask which package owns it
IsHintTrueBySubjectFile words refusal found (Hinted.Unowned place word) =
    (subject_of refusal ≡ Subjects.NotInstalled place) × (asks_for_owner (command_of words) ≡ true)
    × (slice_get words (place - 1) ≡ Some word)
-- the refusal is about the information of a package, which is the word at this place
IsHintTrueBySubjectFile words refusal found (Hinted.Information place word) =
    (subject_of refusal ≡ Information place) × (slice_get words (place - 1) ≡ Some word)
-- the refusal is about the information of a package at this place, which is after the last word
IsHintTrueBySubjectFile words refusal found (Hinted.Missing place) =
    (subject_of refusal ≡ Information place) × (length words ≤ place - 1)
-- the refusal is about the repository with this number, which has this path, and this line of the list names it
IsHintTrueBySubjectFile words refusal found (Hinted.Repository number line path) =
    (subject_of refusal ≡ Subjects.Repository number)
    × (text : List ℕ) × (found ≡ Some text) × RepositoryHasPath text number path × NamesPath text line path
-- the refusal is about the line with this number, and this is its text in the file
IsHintTrueBySubjectFile words refusal found (Hinted.Line file line text) =
    (subject_of refusal ≡ Line file line)
    × (whole : List ℕ) × (found ≡ Some whole) × (slice_get (lines_of whole) (line - 1) ≡ Some text)
-- the refusal is about the database, and the hint says whether its container was found
IsHintTrueBySubjectFile words refusal found (Hinted.Database is_container) =
    (subject_of refusal ≡ Database) × (is_container ≡ is_some found)
-- the refusal is that there is no database, and no container was found
IsHintTrueBySubjectFile words refusal found Hinted.AbsentDatabase =
    (subject_of refusal ≡ AbsentDatabase) × (found ≡ None)
-- the refusal is about a path that two packages list
IsHintTrueBySubjectFile words refusal found Hinted.SharedPath = subject_of refusal ≡ SharedPath
-- the refusal is about the journal
IsHintTrueBySubjectFile words refusal found Hinted.Journal = subject_of refusal ≡ Subjects.Journal
-- the refusal is that repositories need `--allow-untrusted`
IsHintTrueBySubjectFile words refusal found Hinted.Untrusted = subject_of refusal ≡ Subjects.Untrusted
-- the refusal is that `fix` finds no file of a package
IsHintTrueBySubjectFile words refusal found Hinted.AbsentPackage =
    (subject_of refusal ≡ Subjects.AbsentPackage) × (is_fix (command_of words) ≡ true)
-- the refusal is that the file of a package is another one than its index lists
IsHintTrueBySubjectFile words refusal found Hinted.OtherPackage = subject_of refusal ≡ Subjects.OtherPackage
-- the refusal has a cause of a damaged file
IsHintTrueBySubjectFile words refusal found Hinted.Damaged =
    (cause : Cause) × (cause_of refusal ≡ Some cause) × IsOfDamage cause
-- the refusal has a cause of a file of another format
IsHintTrueBySubjectFile words refusal found Hinted.Foreign =
    (cause : Cause) × (cause_of refusal ≡ Some cause) × IsOfFormat cause
-- the place is 100 times the number of the table plus that of the field
IsHintTrueBySubjectFile words refusal found (Hinted.Field place which name) =
    NamesFieldPlace refusal place
    × (number : ℕ) × (place ≡ 100 * table_number which + number) × (0 < number)
    × HasField which number name
-- the cause of the refusal is a schema, which is that of this table
IsHintTrueBySubjectFile words refusal found (Hinted.Schema which) =
    (schema : ℕ) × (cause_of refusal ≡ Some (WrongSchema schema))
    × (header_schema_if_root_table which ≡ Some schema)
-- the cause of the refusal is a schema, which is that of no table
IsHintTrueBySubjectFile words refusal found Hinted.UnknownSchema =
    (schema : ℕ) × (cause_of refusal ≡ Some (WrongSchema schema))
    × ((which : Which) → header_schema_if_root_table which ≡ Some schema → ⊥)
-- this hint says nothing, and is always true
IsHintTrueBySubjectFile words refusal found Hinted.Nothing = Unit {0}
