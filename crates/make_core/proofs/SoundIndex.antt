-- An index that is made is sound, and its value is read back.
use Rattle.std.proofs.Common.{◌≡◌, ◌≢◌, ℕ, ◌+◌, ◌^◌, ◌<◌, Bool, true, false, if◌then◌else◌, List, [], ◌∷◌, length, Option, Some, None, Result, Ok, Err, refl, ap, sym, ◌∙◌, subst}
use Rattle.adb_view.specs.declared.tables.Which.{Which}
use Rattle.std.specs.Prelude.{All}
use Rattle.std.specs.Ordering.{is_gt}
use Rattle.std.specs.declared.cmp.Ordering.{Ordering}
use Rattle.base_core.specs.declared.cause.Cause.{Cause}
use Rattle.adb_view.specs.Plain.{Plain, Plains, none, more, array_or_null, blob_or_null, trimmed_object_or_null}
use Rattle.adb_view.specs.Shaped.{Each}
use Rattle.adb_view.specs.Schema.{shape_of, shapes_of, table}
use Rattle.pkg_core.specs.adb_schema.Texts.{Surroundings, surroundings_of_fields, surroundings_of_root, is_allowed_text_of_field}
use Rattle.adb_copy.specs.adb_fields.Repeated.{repeated_fault}
use Rattle.pkg_core.specs.adb_schema.Soundness.{payload_in, root_value_of_payload, header_schema_if_root_table}
use Rattle.adb_view.specs.declared.tables.Which.TheVariants.{Package, PkgInfo, Index}
use Rattle.adb_view.specs.declared.tables.Kind.TheVariants.{Obj}
use Rattle.pkg_core.specs.adb_schema.declared.read.TheConstants.{INDEX_WORD}
use Rattle.adb_copy.specs.adb_write.Canonical.{ByteAndValueCounts, payload_or_counts_at_overflow, canonical}
use Rattle.adb_copy.specs.adb_write.File.{file_of}
use Rattle.pkg_core.specs.Whole.{container_fault, package_fault}
use Rattle.command_core.specs.Files.{without_one_leading_dot_slash}
use Rattle.command_core.specs.declared.operands.Operand.{Operand}
use Rattle.make_core.specs.Index.{entry_before_others_or_fault, found_entries, found_entry, index_container, index_of_entries, index_of_entries_or_fault, value_of_index, entry_unless_fault, first_description_or_empty, made_index}
use Rattle.make_info.specs.Values.{plains_of_list}
use Rattle.command_core.specs.Command.{CommandLine}
use Rattle.make_core.specs.Entries.{index_entry_of_package_file}
use Rattle.make_core.specs.EntryOrder.{index_entry_cmp}
use Rattle.base_core.specs.Sorted.{sorted_by, with_element_inserted}
use Rattle.base_core.specs.Files.{AreFileBytes}
use Rattle.make_core.specs.Files.{EachOperandReadFindsNoFileOrFileBytes}
use Rattle.package_files.specs.adb_sound.Root.{IsValidRootValueOfTable}
use Rattle.make_info.specs.declared.fault.MakeFault.{MakeFault}
use Rattle.make_core.specs.ReadBack.{index_value_of_command, index_value_of_entries}
use Rattle.make_core.proofs.IndexEntry.{entry_good}
use Rattle.make_core.proofs.OpenedPackage.{Values}
use Rattle.make_core.proofs.Roots.{Exact, root_good, written}
use Rattle.make_core.proofs.GoodValues.{IsGood, arr_good, obj_good, text_good}

-- ---- in order

each_by : (P : Plain → Type 0) (b : Bool) (xs ys : List Plain) → Each P (plains_of_list xs) → Each P (plains_of_list ys) → Each P (plains_of_list (if b then xs else ys))
each_by P true xs ys x y = x
each_by P false xs ys x y = y

each_placed : (P : Plain → Type 0) (cmp : Plain → Plain → Ordering) (x : Plain) (xs : List Plain) → P x → Each P (plains_of_list xs) → Each P (plains_of_list (with_element_inserted cmp x xs))
each_placed P cmp x [] a h = (a, tt)
each_placed P cmp x (y ∷ ys) a h =
    each_by P (is_gt (cmp x y)) (y ∷ with_element_inserted cmp x ys) (x ∷ y ∷ ys) (h.0, each_placed P cmp x ys a h.1) (a, (h.0, h.1))

each_in_order : (P : Plain → Type 0) (cmp : Plain → Plain → Ordering) (xs : List Plain) → Each P (plains_of_list xs) → Each P (plains_of_list (sorted_by cmp xs))
each_in_order P cmp [] h = tt
each_in_order P cmp (x ∷ xs) h = each_placed P cmp x (sorted_by cmp xs) h.0 (each_in_order P cmp xs h.1)

-- ---- the entries

abbrev IsEntry : Surroundings → Plain → Type 0
IsEntry around v = IsGood (shape_of (Obj PkgInfo)) 802 around v

tested_good : Values → (place : ℕ) (around : Surroundings) (file : List ℕ) (v : Plain) (o : Option Cause) → All (λ b. b < 256) file → length file < 2 ^ 64 → around.root ≡ Index
    → package_fault file ≡ o → entry_unless_fault place file o ≡ Ok v → IsEntry around v
tested_good laws place around file v None bytes small root is e =
    let same : index_entry_of_package_file file ≡ v = cc (e) in
    subst (IsEntry around) same (entry_good laws file 802 around bytes small root is)
tested_good laws place around file v (Some c) bytes small root is e = absurd (cc (e))

found_good : Values → (place n : ℕ) (name : List ℕ) (around : Surroundings) (read : ℕ → List ℕ → Option (List ℕ)) (v : Plain) (o : Option (List ℕ)) → ((file : List ℕ) → read n name ≡ Some file → AreFileBytes file) → around.root ≡ Index
    → read n name ≡ o → found_entry place o ≡ Ok v → IsEntry around v
found_good laws place n name around read v None files root is e = absurd (cc (e))
found_good laws place n name around read v (Some file) files root is e =
    let good = files file is in
    tested_good laws place around file v (package_fault file) good.each good.few root refl e

entries_by : (around : Surroundings) (r : Result Plain MakeFault) (rs : Result (List Plain) MakeFault) (entries : List Plain) → entry_before_others_or_fault r rs ≡ Ok entries
    → ((v : Plain) → r ≡ Ok v → IsEntry around v) → ((vs : List Plain) → rs ≡ Ok vs → Each (IsEntry around) (plains_of_list vs)) → Each (IsEntry around) (plains_of_list entries)
entries_by around (Err f) rs entries e a b = absurd (cc (e))
entries_by around (Ok v) (Err f) entries e a b = absurd (cc (e))
entries_by around (Ok v) (Ok vs) entries e a b =
    let same : v ∷ vs ≡ entries = cc (e) in
    subst (λ us. Each (IsEntry around) (plains_of_list us)) same (a v refl, b vs refl)

entries_good : Values → (around : Surroundings) (read : ℕ → List ℕ → Option (List ℕ)) (n : ℕ) (operands : List Operand) (entries : List Plain) → EachOperandReadFindsNoFileOrFileBytes read n operands → around.root ≡ Index
    → found_entries read n operands ≡ Ok entries → Each (IsEntry around) (plains_of_list entries)
entries_good laws around read n [] entries files root e =
    let same : [] ≡ entries = cc (e) in
    subst (λ us. Each (IsEntry around) (plains_of_list us)) same tt
entries_good laws around read n (o ∷ operands) entries files root e =
    entries_by around _ _ entries e (λ v is. found_good laws o.place n (without_one_leading_dot_slash o.text) around read v (read n (without_one_leading_dot_slash o.text)) files.0 root refl is)
    (λ vs is. entries_good laws around read (n + 1) operands vs files.1 root is)

-- ---- the index

abbrev index_fields : List ℕ → List Plain → Plains
index_fields description entries = more (blob_or_null description) (more (array_or_null (plains_of_list entries)) none)

abbrev around_entries : List ℕ → List Plain → Surroundings
around_entries description entries = surroundings_of_fields 8 (surroundings_of_root Index) (trimmed_object_or_null (index_fields description entries))

index_good : (description : List ℕ) (entries : List Plain) → ((around : Surroundings) → around.root ≡ Index → Each (IsEntry around) (plains_of_list entries))
    → IsGood (shape_of (Obj Index)) 0 (surroundings_of_root Index) (value_of_index description entries)
unfolding shape_of value_of_index is_allowed_text_of_field
index_good description entries each =
    let around : Surroundings = around_entries description entries in
    obj_good 8 (shapes_of (table Index)) 0 (surroundings_of_root Index) around (index_fields description entries) refl
    (text_good 801 around description refl, (arr_good (shape_of (Obj PkgInfo)) 802 around (plains_of_list entries) (each around refl), (text_good 803 around [] refl, tt)))

none_repeated : (v : Plain) → repeated_fault Index v ≡ None
unfolding repeated_fault
none_repeated v = refl

not_package : Index ≢ Package
not_package e = (cc)

-- what holds of the value and of the container of each good index
module _ (P : Plain → List ℕ → Type 0) where
  abbrev pub Holds : Type 0
  Holds = (v : Plain) → IsValidRootValueOfTable Index v → P v (file_of INDEX_WORD (canonical v))

  file_holds : Holds → Exact → (v : Plain) (r : Result (List ℕ) ByteAndValueCounts) (bytes : List ℕ) → IsGood (shape_of (Obj Index)) 0 (surroundings_of_root Index) v → payload_or_counts_at_overflow v ≡ r → index_container r ≡ Ok bytes → P v bytes
  file_holds holds exact v (Err c) bytes g w e = absurd (cc (e))
  file_holds holds exact v (Ok payload) bytes g w e =
      let is = written v payload w in
      let same : file_of INDEX_WORD payload ≡ bytes = cc (e) in
      let good = holds v (root_good exact Index v payload g (none_repeated v) is) in
      subst (P v) same (subst (λ (p : List ℕ). P v (file_of INDEX_WORD p)) is.is good)

  found_holds : Holds → Exact → (description : List ℕ) (r : Result (List Plain) MakeFault) (bytes : List ℕ) → ((entries : List Plain) (around : Surroundings) → r ≡ Ok entries → around.root ≡ Index → Each (IsEntry around) (plains_of_list entries))
      → index_of_entries_or_fault description r ≡ Ok bytes → (v : Plain) × (index_value_of_entries description r ≡ Ok v) × P v bytes
  unfolding index_of_entries
  found_holds holds exact description (Err f) bytes each e = absurd (cc (e))
  found_holds holds exact description (Ok entries) bytes each e =
      let v : Plain = value_of_index description (sorted_by index_entry_cmp entries) in
      (v, refl, file_holds holds exact v (payload_or_counts_at_overflow v) bytes (index_good description (sorted_by index_entry_cmp entries) (λ around root. each_in_order (IsEntry around) index_entry_cmp entries (each entries around refl root))) refl e)

  -- of a command
  made_holds : Holds → Exact → Values → (command : CommandLine) (read : ℕ → List ℕ → Option (List ℕ)) (bytes : List ℕ) → EachOperandReadFindsNoFileOrFileBytes read 0 command.operands → made_index command read ≡ Ok bytes
      → (v : Plain) × (index_value_of_command command read ≡ Ok v) × P v bytes
  unfolding made_index
  made_holds holds exact values command read bytes files e =
      found_holds holds exact (first_description_or_empty command.values) (found_entries read 0 command.operands) bytes (λ entries around is root. entries_good values around read 0 command.operands entries files root is) e

-- a container of a good value is sound, and so is an index that is made
abbrev pub Sound : Type 0
Sound = (which : Which) (schema : ℕ) (v : Plain) → header_schema_if_root_table which ≡ Some schema → which ≢ Package → IsValidRootValueOfTable which v → container_fault (file_of schema (canonical v)) ≡ None

pub made_sound : Sound → Exact → Values → (command : CommandLine) (read : ℕ → List ℕ → Option (List ℕ)) (bytes : List ℕ) → EachOperandReadFindsNoFileOrFileBytes read 0 command.operands → made_index command read ≡ Ok bytes → container_fault bytes ≡ None
made_sound sound exact values command read bytes files e =
    (made_holds (λ v file. container_fault file ≡ None) (λ v root. sound Index INDEX_WORD v refl not_package root) exact values command read bytes files e).2

-- its value is read back, and so is that of an index that is made
abbrev pub Back : Type 0
Back = (which : Which) (schema : ℕ) (v : Plain) → header_schema_if_root_table which ≡ Some schema → IsValidRootValueOfTable which v → root_value_of_payload which (payload_in (file_of schema (canonical v))) ≡ v

pub made_back : Back → Exact → Values → (command : CommandLine) (read : ℕ → List ℕ → Option (List ℕ)) (bytes : List ℕ) → EachOperandReadFindsNoFileOrFileBytes read 0 command.operands → made_index command read ≡ Ok bytes → index_value_of_command command read ≡ Ok (root_value_of_payload Index (payload_in bytes))
made_back back exact values command read bytes files e =
    let made = made_holds (λ v file. root_value_of_payload Index (payload_in file) ≡ v) (λ v root. back Index INDEX_WORD v refl root) exact values command read bytes files e in
    made.1 ∙ ap Ok (sym made.2)
