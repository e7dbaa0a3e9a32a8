-- The lines of hints. The rules are in `docs/commands.md`, "Hints".
use Rattle.std.specs.Prelude.{ℕ, ◌==◌, nat_lt, Bool, true, false, not, ◌&&◌, ◌||◌, if◌then◌else◌, List, [], ◌∷◌, ◌++◌, length, take, codes}
use Rattle.std.specs.Fmt.{decimal}
use Rattle.std.specs.Char.{is_ascii_graphic}
use Rattle.hex.specs.Hex.{encode_lower}
use Rattle.adb_view.specs.Schema.{field_name_text}
use Rattle.adb_view.specs.declared.tables.Which.{Which}
use Rattle.adb_view.specs.declared.tables.Which.TheVariants as Tables
use Rattle.root_names.specs.RootNames.{database_name, text_database_name}
use Rattle.words_core.specs.Usage.{most_shown_bytes, texts_joined}
use Rattle.hint_core.specs.declared.hint.Hint.{Hint}
use Rattle.hint_core.specs.declared.hint.Hint.TheVariants.{Word, AbsentFile, Unowned, Information, Missing, Repository, Line, Database, AbsentDatabase, SharedPath, Journal, Untrusted, AbsentPackage, OtherPackage, Damaged, Foreign, Field, Schema, UnknownSchema, Nothing}
use Rattle.hint_core.specs.declared.hint.HintFile.{HintFile}
use Rattle.hint_core.specs.declared.hint.HintFile.TheVariants as Files
use Rattle.hint_core.specs.declared.hint.Hints.{Hints}
use Rattle.hint_core.specs.Hints.{hint_file_name}

-- ---- bytes as they are shown

-- whether a byte is shown as it is: a space (32) or a visible ASCII character, but no backslash (92)
abbrev pub is_byte_printed_as_is : ℕ → Bool
is_byte_printed_as_is byte = ((byte == 32) || is_ascii_graphic byte) && not (byte == 92)

-- a byte as it is shown: as it is, or as `\xNN`
abbrev pub printed_byte : ℕ → List ℕ
printed_byte byte =
    if is_byte_printed_as_is byte then byte ∷ [] else 92 ∷ (120 ∷ encode_lower (byte ∷ []))

-- bytes as a line shows them, all of them
abbrev pub printed_bytes : List ℕ → List ℕ
printed_bytes [] = []
printed_bytes (byte ∷ bytes) = printed_byte byte ++ printed_bytes bytes

-- the two dots after the bytes that are shown, if these are not all
abbrev pub dots_if_cut : List ℕ → List ℕ
dots_if_cut bytes = if nat_lt most_shown_bytes (length bytes) then codes ".." else []

-- bytes as a line shows them: at most 64 of them, and two dots if there are more
abbrev pub printed_text : List ℕ → List ℕ
printed_text bytes = printed_bytes (take most_shown_bytes bytes) ++ dots_if_cut bytes

-- ---- what is named

-- the path of the file that has the database: a container (true), or else a text
abbrev pub database_file_name_of : Bool → List ℕ
database_file_name_of true = database_name
database_file_name_of false = text_database_name

-- what an object of a table is, as lines name it
abbrev pub table_text : Which → List ℕ
table_text Tables.Dep = codes "a dependency"
table_text Tables.Acl = codes "an access list"
table_text Tables.PkgInfo = codes "the information of a package"
table_text Tables.File = codes "a file"
table_text Tables.Dir = codes "a folder"
table_text Tables.Scripts = codes "the scripts of a package"
table_text Tables.Package = codes "a package"
table_text Tables.Index = codes "an index"
table_text Tables.Idb = codes "an installed database"
table_text Tables.Intent = codes "a journal entry"

-- ---- the lines

-- the line of the word at a place; the text `end` follows the word
abbrev pub word_line : ℕ → List ℕ → List ℕ → List ℕ
word_line place word end = texts_joined
    (codes "apk: word " ∷ (decimal place ∷ (codes " is " ∷ (printed_text word ∷ (end
    ∷ (codes "\n" ∷ []))))))

-- what follows a word in its line if the word names no file
abbrev pub absent_file_end : List ℕ
absent_file_end = codes "; its path must be that of a file below this folder, and not of a folder"

-- what follows a word in its line if the word is a path that no package owns
abbrev pub unowned_end : List ℕ
unowned_end = codes "; no installed package owns this path"

-- what follows a word in its line if the word is no valid information of a package
abbrev pub information_end : List ℕ
information_end =
    codes "; the field or its value is invalid, or the field was given before; see apk mkpkg --help"

-- the line that says that information of a package is missing, for which there is no word at this place
abbrev pub missing_information_line : ℕ → List ℕ
missing_information_line place = texts_joined
    (codes "apk: there is no word " ∷ (decimal place
    ∷ (codes ": a package needs -I name:NAME and -I version:VERSION\n" ∷ [])))

-- the line of the repository with a number: the path of its index, and the number of the line that names it
abbrev pub repository_hint_line : ℕ → ℕ → List ℕ → List ℕ
repository_hint_line number line path = texts_joined
    (codes "apk: repository " ∷ (decimal number ∷ (codes " is " ∷ (printed_text path
    ∷ (codes ", line " ∷ (decimal line
    ∷ (codes " of etc/apk/repositories; this must be the file of an index: correct the line, or make "
    ∷ (codes "the file with apk mkndx -o INDEX PACKAGES\n" ∷ []))))))))

-- what follows the text of a line of a file: what such a line has to be
abbrev pub line_hint_end : HintFile → List ℕ
line_hint_end Files.World =
    codes "; a line has one dependency, such as app or app>=1.2, and none repeats a name"
line_hint_end Files.Repositories =
    codes "; a line has the path of an index file below this folder, and no URL"
line_hint_end Files.TextDatabase = []

-- the hint on a line of a file: the number of the line, the file, and the text of the line
abbrev pub line_hint_line : HintFile → ℕ → List ℕ → List ℕ
line_hint_line file line text = texts_joined
    (codes "apk: line " ∷ (decimal line ∷ (codes " of " ∷ (hint_file_name file
    ∷ (codes " is " ∷ (printed_text text ∷ (line_hint_end file ∷ (codes "\n" ∷ []))))))))

-- the line of a database that is refused: it says which file has the database, a container (true) or a text
abbrev pub database_hint_line : Bool → List ℕ
database_hint_line is_container = texts_joined
    (codes "apk: the package database is " ∷ (database_file_name_of is_container
    ∷ (codes "; restore it, or read IF THE DATABASE IS DAMAGED in apk(8)\n" ∷ [])))

-- the line that says that there is no database
abbrev pub absent_database_line : List ℕ
absent_database_line = texts_joined
    (codes "apk: this folder has no lib/apk/db/installed.adb; if it is the root, "
    ∷ (codes "apk add --initdb --allow-untrusted makes one\n" ∷ []))

-- the line of the field at a place: its name, and what the objects of its table are
abbrev pub field_line : ℕ → Which → List ℕ → List ℕ
field_line place table name = texts_joined
    (codes "apk: field " ∷ (decimal place ∷ (codes " is '" ∷ (name
    ∷ (codes "' of " ∷ (table_text table ∷ (codes "\n" ∷ [])))))))

-- the line of a schema: what the objects of the table with this schema are
abbrev pub schema_hint_line : Which → List ℕ
schema_hint_line table = texts_joined
    (codes "apk: by its schema, the file is " ∷ (table_text table ∷ (codes "\n" ∷ [])))

-- the line of a schema that no table has
abbrev pub unknown_schema_line : List ℕ
unknown_schema_line = texts_joined
    (codes "apk: by its schema, the file is nothing that apk reads\n" ∷ [])

-- the line that says what to do if two packages list a path
abbrev pub shared_path_line : List ℕ
shared_path_line = texts_joined
    (codes "apk: to have both, make one of them again with mkpkg -I replaces:NAME-OF-THE-OTHER, "
    ∷ (codes "and then the index\n" ∷ []))

-- the line that says what to do with a journal that is no valid one
abbrev pub journal_line : List ℕ
journal_line = texts_joined
    (codes "apk: another program has written lib/apk/intent; move it away, and run apk audit\n" ∷ [])

-- the line that says which option allows the use of repositories
abbrev pub untrusted_line : List ℕ
untrusted_line = texts_joined
    (codes "apk: apk checks no signatures; to use the indexes in etc/apk/repositories "
    ∷ (codes "nonetheless, give --allow-untrusted\n" ∷ []))

-- the line that says that `fix` needs an index that lists the installed package
abbrev pub absent_package_line : List ℕ
absent_package_line = texts_joined
    (codes "apk: fix needs an index that lists the installed package; "
    ∷ (codes "if none does, run apk upgrade\n" ∷ []))

-- the line that says why the file of a package is another one than its index lists
abbrev pub other_package_line : List ℕ
other_package_line = texts_joined
    (codes "apk: the index lists another file of this name; make the index again with "
    ∷ (codes "apk mkndx, or put the listed file there\n" ∷ []))

-- the line of a file that may be damaged
abbrev pub damaged_line : List ℕ
damaged_line = texts_joined
    (codes "apk: the file may be damaged; copy it again, or make it again\n" ∷ [])

-- the line of a file of another format
abbrev pub foreign_line : List ℕ
foreign_line = texts_joined
    (codes "apk: apk reads only uncompressed ADB files, as apk mkpkg and apk mkndx make them, "
    ∷ (codes "and no packages of mirrors\n" ∷ []))

-- the line of a hint; empty for *Nothing*
abbrev pub hint_line : Hint → List ℕ
hint_line (Word place word) = word_line place word []
hint_line (AbsentFile place word) = word_line place word absent_file_end
hint_line (Unowned place word) = word_line place word unowned_end
hint_line (Information place word) = word_line place word information_end
hint_line (Missing place) = missing_information_line place
hint_line (Repository number line path) = repository_hint_line number line path
hint_line (Line file line text) = line_hint_line file line text
hint_line (Database is_container) = database_hint_line is_container
hint_line AbsentDatabase = absent_database_line
hint_line SharedPath = shared_path_line
hint_line Journal = journal_line
hint_line Untrusted = untrusted_line
hint_line AbsentPackage = absent_package_line
hint_line OtherPackage = other_package_line
hint_line Damaged = damaged_line
hint_line Foreign = foreign_line
hint_line (Field place table name) = field_line place table (field_name_text name)
hint_line (Schema table) = schema_hint_line table
hint_line UnknownSchema = unknown_schema_line
hint_line Nothing = []

-- the lines of both hints of a refusal: first on what it is about, then on its cause
abbrev pub hint_lines : Hints → List ℕ
hint_lines hints = hint_line hints.subject ++ hint_line hints.cause
