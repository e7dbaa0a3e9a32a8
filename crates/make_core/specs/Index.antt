-- What `mkndx` makes (apk(8)): an index of packages.
-- The rule is in `docs/commands.md`, "`mkndx PACKAGE..`", with the refusals in their order; the
-- fields in `docs/formats.md`, "Schemas", table 8.
use Rattle.command_core.specs.declared.values.TheConstants.{DESCRIPTION}
use Rattle.std.specs.Prelude.{ℕ, ◌+◌, ◌==◌, List, [], ◌∷◌, Option, Some, None, Result, Ok, Err}
use Rattle.std.specs.List.{find}
use Rattle.base_core.specs.declared.cause.Cause.{Cause}
use Rattle.adb_view.specs.Plain.{Plain, none, more, blob_or_null, array_or_null, trimmed_object_or_null}
use Rattle.pkg_core.specs.adb_schema.declared.read.TheConstants.{INDEX_WORD}
use Rattle.adb_copy.specs.adb_write.Canonical.{ByteAndValueCounts, payload_or_counts_at_overflow}
use Rattle.adb_copy.specs.adb_write.File.{file_of}
use Rattle.pkg_core.specs.Whole.{package_fault}
use Rattle.command_core.specs.Command.{CommandLine}
use Rattle.command_core.specs.Files.{without_one_leading_dot_slash}
use Rattle.command_core.specs.declared.operands.Operand.{Operand}
use Rattle.command_core.specs.declared.values.OptionValue.{OptionValue}
use Rattle.make_info.specs.Reads.{Reads}
use Rattle.make_info.specs.Values.{plains_of_list}
use Rattle.make_info.specs.declared.fault.MakeFault.{MakeFault}
use Rattle.make_info.specs.declared.fault.MakeFault.TheVariants.{FileMissing, FileBad, TooLarge}
use Rattle.make_core.specs.Entries.{index_entry_of_package_file}
use Rattle.make_core.specs.EntryOrder.{index_entry_cmp}
use Rattle.base_core.specs.Sorted.{sorted_by}

-- ---- the value

-- the value of an index with this description and these entries, without a pattern for the names of the
-- packages' files
unfoldable pub value_of_index : List ℕ → List Plain → Plain
value_of_index description entries =
    trimmed_object_or_null (more (blob_or_null description)
    (more (array_or_null (plains_of_list entries)) none))

-- ---- the packages, operand by operand

-- the entry of the package in the file with these bytes. If a test of the file failed (`cause`), the
-- refusal at the place of the operand that names the file
abbrev pub entry_unless_fault : ℕ → List ℕ → Option Cause → Result Plain MakeFault
entry_unless_fault place file None = Ok (index_entry_of_package_file file)
entry_unless_fault place file (Some cause) = Err (FileBad place cause)

-- the entry of the package that was found under the name of the operand at this place. If no file was
-- found, or a test of it fails, a refusal at this place
abbrev pub found_entry : ℕ → Option (List ℕ) → Result Plain MakeFault
found_entry place None = Err (FileMissing place)
found_entry place (Some file) = entry_unless_fault place file (package_fault file)

-- an entry followed by other entries; or the first refusal, if one of the two results is a refusal
abbrev pub entry_before_others_or_fault :
    Result Plain MakeFault → Result (List Plain) MakeFault → Result (List Plain) MakeFault
entry_before_others_or_fault (Err fault) others = Err fault
entry_before_others_or_fault (Ok entry) (Err fault) = Err fault
entry_before_others_or_fault (Ok entry) (Ok entries) = Ok (entry ∷ entries)

-- the entries of the packages that the operands name, in their order, or the first refusal. The operands
-- are read one after the other; the read for the first one has the number `n`
abbrev pub found_entries : Reads → ℕ → List Operand → Result (List Plain) MakeFault
found_entries read n [] = Ok []
found_entries read n (o ∷ operands) =
    entry_before_others_or_fault (found_entry o.place (read n (without_one_leading_dot_slash o.text)))
    (found_entries read (n + 1) operands)

-- ---- the file

-- the bytes of the index with this payload. Or, if the payload exceeds a limit of the writer, the error
-- with the two counts at which it does
abbrev pub index_container : Result (List ℕ) ByteAndValueCounts → Result (List ℕ) MakeFault
index_container (Ok payload) = Ok (file_of INDEX_WORD payload)
index_container (Err counts) = Err (TooLarge counts.0 counts.1)

-- the bytes of the index with this description and these entries, which are sorted here. Or the refusal
-- if its payload exceeds a limit of the writer
unfoldable pub index_of_entries : List ℕ → List Plain → Result (List ℕ) MakeFault
index_of_entries description entries =
    index_container (payload_or_counts_at_overflow
    (value_of_index description (sorted_by index_entry_cmp entries)))

-- the bytes of the index with the entries that were found, or the refusal that was found in place of them
abbrev pub index_of_entries_or_fault : List ℕ → Result (List Plain) MakeFault → Result (List ℕ) MakeFault
index_of_entries_or_fault description (Ok entries) = index_of_entries description entries
index_of_entries_or_fault description (Err fault) = Err fault

-- the bytes of the index of the packages that the operands name, given the results of the reads; or the
-- first refusal
abbrev pub index_of_operands : List ℕ → List Operand → Reads → Result (List ℕ) MakeFault
index_of_operands description operands read =
    index_of_entries_or_fault description (found_entries read 0 operands)

-- ---- of a command

-- the text of the value; empty if there is no value
abbrev pub text_or_empty : Option OptionValue → List ℕ
text_or_empty None = []
text_or_empty (Some v) = v.text

-- the description of an index: the text of the first value of `-d`; empty if there is none. `values` are
-- the values of all options
abbrev pub first_description_or_empty : List OptionValue → List ℕ
first_description_or_empty values =
    text_or_empty (find (λ (v : OptionValue). v.letter == DESCRIPTION) values)

-- the index of a command: the container's bytes, or the first refusal, given what each read finds under
-- a name; reads are numbered from 0
unfoldable pub made_index : CommandLine → Reads → Result (List ℕ) MakeFault
made_index command read =
    index_of_operands (first_description_or_empty command.values) command.operands read
