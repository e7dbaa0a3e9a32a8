-- The error lines of refusals, of a failed call on the file tree, and of out of memory. The rules are in
-- `docs/commands.md`, "Error lines"; the lines of the two failures are in "Answers and statuses".
use Rattle.std.specs.Prelude.{ℕ, List, ◌++◌, ◌==◌, if◌then◌else◌, codes}
use Rattle.std.specs.Fmt.{decimal}
use Rattle.std.specs.Int.{w32, to_be_bytes}
use Rattle.hex.specs.Hex.{encode_lower}
use Rattle.base_core.specs.declared.cause.Cause.{Cause}
use Rattle.base_core.specs.declared.cause.Cause.TheVariants.{NotAdb, Compressed, Truncated, BlockOrder, CompatVersion, Outside, WrongKind, WrongSchema, TooLarge, BadText, Repeated, DataOrder, DataSize, HashDiffers, TextLine}
use Rattle.base_core.specs.declared.cause.Digest.{Digest}
use Rattle.base_core.specs.declared.cause.Digest.TheVariants.{Sha1, Sha256, Sha512}
use Rattle.report_core.specs.Numbers.{HASHES_FIELD, TRIGGER_SCRIPT, PRE_INSTALL_SCRIPT, POST_INSTALL_SCRIPT, PRE_DEINSTALL_SCRIPT, POST_DEINSTALL_SCRIPT, PRE_UPGRADE_SCRIPT, POST_UPGRADE_SCRIPT}
use Rattle.report_core.specs.declared.refusal.Refusal.{Refusal}
use Rattle.report_core.specs.declared.refusal.Refusal.TheVariants.{Usage, IntentBad, FileMissing, FileBad, TextBad, VersionBad, InfoBad, NoDatabase, DatabaseBad, WorldBad, RepositoriesBad, Untrusted, IndexMissing, IndexBad, TooMany, NotInstalled, Unsatisfied, PackageMissing, PackageBad, PackageDiffers, ScriptNeeded, Reserved, PathClash, Owned, TriggerNeeded, ResultTooLarge}

-- a word of a value or a schema, both with 32 bits, in eight lower-case hexadecimal digits
abbrev pub eight_hex_digits : ℕ → List ℕ
eight_hex_digits number = encode_lower (to_be_bytes w32 number)

-- the bytes of a digest, which are printed in hexadecimal digits
abbrev pub digest_bytes : Digest → List ℕ
digest_bytes (Sha1 bytes) = bytes
digest_bytes (Sha256 bytes) = bytes
digest_bytes (Sha512 bytes) = bytes

-- ---- causes

-- the positions of a folder in a package and of a file in this folder, counted from 1, with a dot between
abbrev pub folder_and_file_position_text : ℕ → ℕ → List ℕ
folder_and_file_position_text folder file = decimal folder ++ codes "." ++ decimal file

-- the text of a cause, for which a container is refused
abbrev pub cause_text : Cause → List ℕ
cause_text NotAdb = codes "not an ADB file"
cause_text Compressed = codes "compressed ADB file"
cause_text (Truncated at) = codes "truncated at " ++ decimal at
cause_text (BlockOrder at) = codes "block out of order at " ++ decimal at
cause_text CompatVersion = codes "incompatible version"
cause_text (WrongSchema found) = codes "wrong schema " ++ eight_hex_digits found
cause_text (Outside word) = codes "value " ++ eight_hex_digits word ++ codes " points outside"
cause_text (WrongKind word) = codes "value " ++ eight_hex_digits word ++ codes " has the wrong kind"
cause_text (TooLarge count) = decimal count ++ codes " values are too many"
cause_text (BadText place) = codes "bad field " ++ decimal place
cause_text (Repeated place first second) =
    codes "field " ++ decimal place ++ codes " repeated at " ++ decimal first ++ codes " and "
    ++ decimal second
cause_text (DataOrder expected found) =
    codes "contents " ++ folder_and_file_position_text found.0 found.1
    ++ codes " where " ++ folder_and_file_position_text expected.0 expected.1 ++ codes " was expected"
cause_text (DataSize wanted found) =
    codes "contents of " ++ decimal found ++ codes " bytes where " ++ decimal wanted
    ++ codes " were expected"
cause_text (HashDiffers wanted found) =
    codes "hash " ++ encode_lower (digest_bytes found)
    ++ codes " where " ++ encode_lower (digest_bytes wanted) ++ codes " was expected"
cause_text (TextLine line) = codes "bad line " ++ decimal line

-- ---- refusals

-- the text of a refusal of a word: the place of the word, counted from 1, and the reason (`text`)
abbrev pub refusal_text_of_word_place_and_reason : ℕ → List ℕ → List ℕ
refusal_text_of_word_place_and_reason place text = codes "word " ++ decimal place ++ codes ": " ++ text

-- the text of a refusal of a repository: the number of the repository, counted from 1, and the reason (`text`)
abbrev pub refusal_text_of_repository_and_reason : ℕ → List ℕ → List ℕ
refusal_text_of_repository_and_reason number text =
    codes "repository " ++ decimal number ++ codes ": " ++ text

-- the text of a refusal of a package: the package's name and version, and the reason (`text`)
abbrev pub refusal_text_of_package_and_reason : List ℕ → List ℕ → List ℕ → List ℕ
refusal_text_of_package_and_reason name version text = name ++ codes "-" ++ version ++ codes ": " ++ text

-- the value `bytes` of the field with this number in a package's information, as it is printed: the id (the field
-- *hashes*) in hexadecimal digits, the name and the version as they are
abbrev pub package_field_value_text_by_number : ℕ → List ℕ → List ℕ
package_field_value_text_by_number field bytes = if field == HASHES_FIELD then encode_lower bytes else bytes

-- the name of the script with this number; a number that no script has is printed as a number
abbrev pub script_name : ℕ → List ℕ
script_name script =
    if script == TRIGGER_SCRIPT then codes "trigger" else
    if script == PRE_INSTALL_SCRIPT then codes "pre-install" else
    if script == POST_INSTALL_SCRIPT then codes "post-install" else
    if script == PRE_DEINSTALL_SCRIPT then codes "pre-deinstall" else
    if script == POST_DEINSTALL_SCRIPT then codes "post-deinstall" else
    if script == PRE_UPGRADE_SCRIPT then codes "pre-upgrade" else
    if script == POST_UPGRADE_SCRIPT then codes "post-upgrade" else decimal script

-- the text of a refusal
abbrev pub refusal_text : Refusal → List ℕ
refusal_text (Usage place) = codes "usage error at word " ++ decimal place
refusal_text (IntentBad cause) = codes "lib/apk/intent: " ++ cause_text cause
refusal_text (FileMissing place) = refusal_text_of_word_place_and_reason place (codes "no such file")
refusal_text (FileBad place cause) = refusal_text_of_word_place_and_reason place (cause_text cause)
refusal_text (TextBad place line) =
    refusal_text_of_word_place_and_reason place (codes "bad line " ++ decimal line)
refusal_text (VersionBad place) = refusal_text_of_word_place_and_reason place (codes "invalid version")
refusal_text (InfoBad place) =
    refusal_text_of_word_place_and_reason place (codes "invalid package information")
refusal_text NoDatabase = codes "no package database"
refusal_text (DatabaseBad cause) = codes "package database: " ++ cause_text cause
refusal_text (WorldBad line) = codes "etc/apk/world: line " ++ decimal line
refusal_text (RepositoriesBad line) = codes "etc/apk/repositories: line " ++ decimal line
refusal_text Untrusted = codes "repositories need --allow-untrusted"
refusal_text (IndexMissing repository) =
    refusal_text_of_repository_and_reason repository (codes "no such index")
refusal_text (IndexBad repository cause) =
    refusal_text_of_repository_and_reason repository (cause_text cause)
refusal_text (TooMany count) = decimal count ++ codes " candidates are too many"
refusal_text (NotInstalled place) = refusal_text_of_word_place_and_reason place (codes "not installed")
refusal_text Unsatisfied = codes "unable to select packages"
refusal_text (PackageMissing name version) =
    refusal_text_of_package_and_reason name version (codes "no such package file")
refusal_text (PackageBad name version cause) =
    refusal_text_of_package_and_reason name version (cause_text cause)
refusal_text (PackageDiffers name version field wanted found) =
    refusal_text_of_package_and_reason name version
    (codes "differs from its index: " ++ package_field_value_text_by_number field wanted ++ codes ", "
    ++ package_field_value_text_by_number field found)
refusal_text (ScriptNeeded name script) =
    name ++ codes ": script " ++ script_name script ++ codes " needs --no-scripts"
refusal_text (Reserved path) = path ++ codes ": reserved name"
refusal_text (PathClash path other) = path ++ codes ": is a folder of " ++ other
refusal_text (Owned path first second) =
    path ++ codes ": " ++ first ++ codes " and " ++ second ++ codes " both have it"
refusal_text (TriggerNeeded name) = name ++ codes ": its trigger needs --no-scripts"
refusal_text (ResultTooLarge bytes values) =
    codes "result too large: " ++ decimal bytes ++ codes " bytes, " ++ decimal values
    ++ codes " values"

-- ---- lines

-- a text as an error line
abbrev pub error_line : List ℕ → List ℕ
error_line text = codes "ERROR: " ++ text ++ codes "\n"

-- the error line of a refusal
abbrev pub refusal_line : Refusal → List ℕ
refusal_line refusal = error_line (refusal_text refusal)

-- the error line of an I/O error of the file tree
abbrev pub tree_failure_line : List ℕ
tree_failure_line = error_line (codes "the tree failed")

-- the error line of out of memory
abbrev pub out_of_memory_line : List ℕ
out_of_memory_line = error_line (codes "out of memory")
