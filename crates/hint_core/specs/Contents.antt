-- Which files of a package the positions in `contents A.B where C.D was expected` are. Of each pair of positions,
-- counted from 1, the first is that of a folder in the package, and the second that of a file in this folder. The rules
-- are in `docs/commands.md`, "Hints"; the positions are described in `docs/formats.md`, "The other blocks".
use Rattle.std.specs.Prelude.{◌≡◌, ℕ, ◌-◌, ◌==◌, nat_le, ◌&&◌, if◌then◌else◌, List, [], ◌∷◌, ◌++◌, codes, Option, Some, None, option_and_then, Result, Ok, Err}
use Rattle.std.specs.Fmt.{decimal}
use Rattle.std.specs.List.{slice_get}
use Rattle.std.specs.Option.{option_map}
use Rattle.adb_view.specs.FieldIndexes.{DIR_FILES_INDEX, PACKAGE_PATHS_INDEX}
use Rattle.adb_view.specs.Plain.{Plain}
use Rattle.adb_view.specs.Values.{count_of, entries_in, entry_at_index}
use Rattle.adb_view.specs.declared.tables.Which.TheVariants.{Package}
use Rattle.base_core.specs.Calls.{IfObservable}
use Rattle.base_core.specs.Tree.{TreeState, files_of}
use Rattle.base_core.specs.declared.cause.Cause.{Cause}
use Rattle.base_core.specs.declared.cause.Cause.TheVariants.{DataOrder}
use Rattle.command_core.specs.Named.{file_name}
use Rattle.pkg_core.specs.Front.{front_payload}
use Rattle.pkg_core.specs.declared.front.Front.{Front}
use Rattle.pkg_core.specs.declared.front.FrontFault.{FrontFault}
use Rattle.pkg_core.specs.declared.front.FrontFault.TheVariants.{Bad, Disk, Memory}
use Rattle.pkg_core.specs.adb_schema.Soundness.{container_fault_except_contents, payload_fault, payload_in, root_value_of_payload}
use Rattle.pkg_core.specs.adb_schema.adb_fields.Paths.{path_of}
use Rattle.pkg_core.specs.adb_schema.adb_fields.Repeated.{name_of}
use Rattle.report_core.specs.declared.refusal.Refusal.{Refusal}
use Rattle.report_core.specs.declared.refusal.Refusal.TheVariants.{FileBad}
use Rattle.words_core.specs.Grammar.{command_of}
use Rattle.words_core.specs.Usage.{texts_joined}
use Rattle.hint_core.specs.declared.contents.MixedUp.{MixedUp}
use Rattle.hint_core.specs.Hints.{cause_of, is_explained}
use Rattle.hint_core.specs.Lines.{printed_text}

-- ---- what is mixed up

-- the positions of two files that a cause names, if it names such: those whose contents were expected and found
abbrev pub mixed_up_positions_of_cause : Cause → Option MixedUp
mixed_up_positions_of_cause (DataOrder expected found) =
    Some (record { expected = expected; found = found })
mixed_up_positions_of_cause cause = None

-- the positions of two files that the cause of a refusal names, if it names such
abbrev pub mixed_up_positions : Refusal → Option MixedUp
mixed_up_positions refusal = option_and_then mixed_up_positions_of_cause (cause_of refusal)

-- ---- files of a package

-- the entry of an array at a position, counted from 1; None if the array has no such position
abbrev pub item_at_position : Plain → ℕ → Option Plain
item_at_position array position =
    if nat_le 1 position && nat_le position (count_of (entries_in array))
    then Some (entry_at_index array (position - 1)) else None

-- the path of the file at a position in a folder, if there is one
abbrev pub path_in_folder : Plain → ℕ → Option (List ℕ)
path_in_folder folder file =
    option_map (λ (f : Plain). path_of (name_of folder) (name_of f))
    (item_at_position (entry_at_index folder DIR_FILES_INDEX) file)

-- the path of the file of a package with these positions, if there is one
abbrev pub path_at : Plain → ℕ × ℕ → Option (List ℕ)
path_at pkg position =
    option_and_then (λ folder. path_in_folder folder position.1)
    (item_at_position (entry_at_index pkg PACKAGE_PATHS_INDEX) position.0)

-- ---- lines

-- the texts that show a pair of positions, as in `4.1`, before further texts
abbrev pub position_pieces : ℕ × ℕ → List (List ℕ) → List (List ℕ)
position_pieces position rest = decimal position.0 ∷ (codes "." ∷ (decimal position.1 ∷ rest))

-- the line of the file with these positions in the package file `pkg`, by its path; without a path, the package has no
-- such file
abbrev pub file_line : List ℕ → ℕ × ℕ → Option (List ℕ) → List ℕ
file_line pkg position (Some path) = texts_joined
    (codes "apk: file " ∷ position_pieces position (codes " of " ∷ (printed_text pkg
    ∷ (codes " is " ∷ (printed_text path ∷ (codes "\n" ∷ []))))))
file_line pkg position None = texts_joined
    (codes "apk: " ∷ (printed_text pkg ∷ (codes " has no file "
    ∷ position_pieces position (codes "\n" ∷ []))))

-- the line of the file with these positions in a package with this name; `0.0` stands for no file, and has none
abbrev pub position_line : List ℕ → Plain → ℕ × ℕ → List ℕ
position_line name pkg position =
    if (position.0 == 0) && (position.1 == 0) then [] else
    file_line name position (path_at pkg position)

-- the lines of the two files that are mixed up in a package with this name: first the one whose contents were expected
abbrev pub package_lines : List ℕ → MixedUp → Plain → List ℕ
package_lines name mixed pkg =
    position_line name pkg mixed.expected ++ position_line name pkg mixed.found

-- the lines, unless a test failed: then there is a cause, and no line
abbrev pub lines_unless : Option Cause → List ℕ → List ℕ
lines_unless None lines = lines
lines_unless (Some cause) lines = []

-- the lines of the two files that are mixed up in a package with this name and payload; none if a test of its values
-- fails
abbrev pub payload_lines : List ℕ → MixedUp → List ℕ → List ℕ
payload_lines name mixed payload =
    lines_unless (payload_fault Package payload)
    (package_lines name mixed (root_value_of_payload Package payload))

-- these lines are those of a package, by the front (its header and first block) that was read; there are none if the
-- front is absent or bad
abbrev pub AreLinesOfRead :
    List ℕ → MixedUp → Result (Option Front) FrontFault → List ℕ → Type 0
AreLinesOfRead name mixed (Ok (Some front)) lines =
    lines ≡ payload_lines name mixed (front_payload front)
AreLinesOfRead name mixed (Ok None) lines = lines ≡ []
AreLinesOfRead name mixed (Err (Bad cause)) lines = lines ≡ []
AreLinesOfRead name mixed (Err Disk) lines = ⊥
AreLinesOfRead name mixed (Err Memory) lines = ⊥

-- the lines of the two files that are mixed up in the package file that is found under a name; none if it is absent, or
-- a test of its values fails
abbrev pub contents_lines : List ℕ → MixedUp → Option (List ℕ) → List ℕ
contents_lines name mixed None = []
contents_lines name mixed (Some file) =
    lines_unless (container_fault_except_contents Package file)
    (package_lines name mixed (root_value_of_payload Package (payload_in file)))

-- ---- what is printed

-- these lines are those of the two files that are mixed up in the package file under a name; there are none without a
-- name
abbrev pub ExplainsFile : Option (List ℕ) → MixedUp → List TreeState → List ℕ → Type 0
ExplainsFile None mixed history lines = lines ≡ []
ExplainsFile (Some name) mixed history lines =
    (found : Option (List ℕ)) × IfObservable history (λ v. found ≡ files_of v name)
    × (lines ≡ contents_lines name mixed found)

-- these lines are those of the two files that are mixed up in the package file under a name; there are none if no files
-- are
abbrev pub ExplainsMixedUp :
    Option (List ℕ) → Option MixedUp → List TreeState → List ℕ → Type 0
ExplainsMixedUp name None history lines = lines ≡ []
ExplainsMixedUp name (Some mixed) history lines = ExplainsFile name mixed history lines

-- the name of the file that the word at a place names; None if there is no such word, or it can name no file
abbrev pub file_name_of_word : List (List ℕ) → ℕ → Option (List ℕ)
file_name_of_word words place = option_and_then file_name (slice_get words (place - 1))

-- the place of the word that names a file which fails a test, if the refusal is of such a file
abbrev pub place_of_bad_file : Refusal → Option ℕ
place_of_bad_file (FileBad place cause) = Some place
place_of_bad_file refusal = None

-- the name of the package file that a refusal is about, if a word names it and hints explain the refusals of the
-- command line
abbrev pub refused_file : List (List ℕ) → Refusal → Option (List ℕ)
refused_file words refusal =
    if is_explained (command_of words)
    then option_and_then (file_name_of_word words) (place_of_bad_file refusal) else None

-- these lines say which files the positions are that a refusal names, in the package file that the refusal is about
abbrev pub ExplainsContents : List (List ℕ) → Refusal → List TreeState → List ℕ → Type 0
ExplainsContents words refusal history lines =
    ExplainsMixedUp (refused_file words refusal) (mixed_up_positions refusal) history lines
