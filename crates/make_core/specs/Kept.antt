-- The part of a package that is kept until the index is written, and the results of the calls that keep
-- it.
-- Only `docs/DECISIONS.md`, "Making", has a rule for this, on entries that are too large. It serves the
-- contracts of `src/indexes/entry.rt` and `src/indexes/source.rt`.
use Rattle.std.specs.Prelude.{◌≡◌, ℕ, List, true, IsTrue, is_none, Option, Some, Result, Ok, Err}
use Rattle.base_core.specs.declared.cause.Cause.{Cause}
use Rattle.adb_view.specs.Head.{payload_head_fault, root_word_of_payload}
use Rattle.adb_view.specs.Plain.{Plain}
use Rattle.pkg_core.specs.adb_schema.Soundness.{root_value_of_payload}
use Rattle.adb_view.specs.FieldIndexes.{INFO_FILE_SIZE_INDEX, INFO_HASHES_INDEX}
use Rattle.adb_view.specs.Values.{entry_at_index, int_in, is_sound, text_in}
use Rattle.adb_view.specs.declared.tables.Which.TheVariants.{PkgInfo}
use Rattle.adb_view.specs.declared.tables.Kind.TheVariants.{Obj}
use Rattle.version_core.specs.Order.{is_version}
use Rattle.make_info.specs.declared.fault.MakeFault.{MakeFault}
use Rattle.make_info.specs.declared.fault.MakeFault.TheVariants.{FileBad, Disk, Memory}
use Rattle.make_core.specs.Entries.{index_entry_of_package_file}
use Rattle.adb_copy.specs.Zeros.{info_without_zeros_with_id_and_file_size}
use Rattle.make_core.specs.EntryOrder.{id_of_index_entry, name_of_index_entry, version_of_index_entry}
use Rattle.make_core.specs.declared.indexes.source.EntrySource.{EntrySource}
use Rattle.make_core.specs.declared.indexes.source.EntrySource.TheVariants.{Payload, File}

-- ---- entries

-- an entry, built again from its own fields, as it is written into the payload of an index
abbrev pub copy_of_entry : Plain → Plain
copy_of_entry entry =
    info_without_zeros_with_id_and_file_size entry (text_in (entry_at_index entry INFO_HASHES_INDEX))
    (int_in (entry_at_index entry INFO_FILE_SIZE_INDEX))

-- the entry that is written from what is kept of a package: a payload with the entry, or the package's
-- file
abbrev pub entry_of_source : EntrySource → Plain
entry_of_source (Payload own) = copy_of_entry (root_value_of_payload PkgInfo own.payload.items)
entry_of_source (File own) = index_entry_of_package_file own.file.items

-- the payload can be read, and the entry is the copy of its root
pub record HoldsEntry (payload : List ℕ) (entry : Plain) : Type 0 where
  -- the head of the payload has no fault
  pub head : is_none (payload_head_fault payload) ≡ true
  -- the payload's root is the sound information of a package
  pub sound : is_sound payload (Obj PkgInfo) (root_word_of_payload payload) ≡ true
  -- the entry is the copy of this information
  pub value : copy_of_entry (root_value_of_payload PkgInfo payload) ≡ entry

-- the name, the version and the id are those by which this entry is ordered; and the version is valid
pub record IsEntryWithKeys (name version id : List ℕ) (entry : Plain) : Type 0 where
  -- the name is the entry's
  pub by_name : name ≡ name_of_index_entry entry
  -- the version is the entry's
  pub by_version : version ≡ version_of_index_entry entry
  -- the id is the entry's
  pub by_id : id ≡ id_of_index_entry entry
  -- the version is valid
  pub sound : IsTrue (is_version version)

-- ---- results

-- the result, with its value mapped by `view`, equals the specified result (`wanted`). If the result is
-- out of memory, nothing is stated; it is never an I/O error of the tree
abbrev pub AgreesUnlessMemory :
    {A B : Type 0} → (A → B) → Result A MakeFault → Result B MakeFault → Type 0
AgreesUnlessMemory view (Ok x) wanted = wanted ≡ Ok (view x)
AgreesUnlessMemory view (Err Memory) wanted = Unit {0}
AgreesUnlessMemory view (Err Disk) wanted = ⊥
AgreesUnlessMemory view (Err fault) wanted = wanted ≡ Err fault

-- the result, with its value mapped by `view`, equals the specified result (`wanted`). If the result is
-- out of memory or an I/O error of the tree, nothing is stated
abbrev pub AgreesUnlessMemoryOrDisk :
    {A B : Type 0} → (A → B) → Result A MakeFault → Result B MakeFault → Type 0
AgreesUnlessMemoryOrDisk view (Ok x) wanted = wanted ≡ Ok (view x)
AgreesUnlessMemoryOrDisk view (Err Memory) wanted = Unit {0}
AgreesUnlessMemoryOrDisk view (Err Disk) wanted = Unit {0}
AgreesUnlessMemoryOrDisk view (Err fault) wanted = wanted ≡ Err fault

-- the refusal of the package that the operand at this place names: `FileBad` with the first test that
-- fails (`failed`), or out of memory. No other fault
abbrev pub IsRefusedAt : ℕ → MakeFault → Option Cause → Type 0
IsRefusedAt place (FileBad at cause) failed = (at ≡ place) × (failed ≡ Some cause)
IsRefusedAt place Memory failed = Unit {0}
IsRefusedAt place fault failed = ⊥
