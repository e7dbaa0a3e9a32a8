-- An index that is made tells of just the packages that operands name, in order.
use Rattle.std.proofs.Common.{◌≡◌, ℕ, ◌+◌, List, [], ◌∷◌, map, Option, Some, None, Result, Ok, Err, refl, ap, sym, subst, ◌∙◌}
use Rattle.std.specs.List.Sorted.{IsPermutation, IsSorted}
use Rattle.base_core.specs.declared.cause.Cause.{Cause}
use Rattle.adb_copy.specs.adb_fields.Repeated.{list_of}
use Rattle.pkg_core.specs.adb_schema.Soundness.{payload_in, root_value_of_payload}
use Rattle.adb_view.specs.Values.{entries_in}
use Rattle.adb_view.specs.declared.tables.Which.TheVariants.{Index}
use Rattle.adb_view.proofs.ValueEntries.{entries_arr, nth_obj}
use Rattle.adb_view.specs.Plain.{Plain, none, more, array_or_null, blob_or_null}
use Rattle.command_core.specs.Command.{CommandLine}
use Rattle.command_core.specs.Files.{without_one_leading_dot_slash}
use Rattle.command_core.specs.declared.operands.Operand.{Operand}
use Rattle.base_core.specs.Sorted.{sorted_by}
use Rattle.make_core.specs.Entries.{index_entry_of_package_file}
use Rattle.make_core.specs.EntryOrder.{index_entry_cmp}
use Rattle.make_core.specs.Files.{EachOperandReadFindsNoFileOrFileBytes}
use Rattle.make_core.specs.Index.{entry_before_others_or_fault, first_description_or_empty, entry_unless_fault, found_entries, found_entry, made_index, value_of_index}
use Rattle.make_info.specs.Reads.{Reads}
use Rattle.make_info.specs.Values.{plains_of_list}
use Rattle.make_info.specs.declared.fault.MakeFault.{MakeFault}
use Rattle.pkg_core.specs.Whole.{package_fault}
use Rattle.make_core.specs.IndexOrder.{AreSoundPackages, HasSortedEntriesOfOperands, packages_in}
use Rattle.make_core.specs.ReadBack.{index_value_of_entries}
use Rattle.make_core.proofs.OpenedPackage.{Values}
use Rattle.make_core.proofs.PackageFiles.{list-plains}
use Rattle.make_core.proofs.Roots.{Exact}
use Rattle.make_core.proofs.SoundIndex.{Back, made_back}

-- ---- the packages

-- what was found is a sound package, and this is its entry
record IsSoundEntry (found : Option (List ℕ)) (entry : Plain) : Type 0 where
  file : List ℕ
  is : found ≡ Some file
  sound : package_fault file ≡ None
  same : index_entry_of_package_file file ≡ entry

found_sound : (place : ℕ) (found : Option (List ℕ)) (entry : Plain) → found_entry place found ≡ Ok entry → IsSoundEntry found entry
found_sound place None entry e = absurd (cc (e))
found_sound place (Some file) entry e = by (package_fault file) refl e
  where
    by : (fault : Option Cause) → package_fault file ≡ fault → entry_unless_fault place file fault ≡ Ok entry → IsSoundEntry (Some file) entry
    by None is e = let same : index_entry_of_package_file file ≡ entry = cc (e) in record { file = file; is = refl; sound = is; same = same }
    by (Some cause) is e = absurd (cc (e))

record AreSoundEntries (read : Reads) (n : ℕ) (operands : List Operand) (entries : List Plain) : Type 0 where
  files : List (List ℕ)
  sound : AreSoundPackages read n operands files
  same : map index_entry_of_package_file files ≡ entries

one_more : (read : Reads) (n : ℕ) (o : Operand) (operands : List Operand) (entries : List Plain) (r : Result Plain MakeFault) (rs : Result (List Plain) MakeFault)
    → ((entry : Plain) → r ≡ Ok entry → IsSoundEntry (read n (without_one_leading_dot_slash o.text)) entry) → ((others : List Plain) → rs ≡ Ok others → AreSoundEntries read (n + 1) operands others)
    → entry_before_others_or_fault r rs ≡ Ok entries → AreSoundEntries read n (o ∷ operands) entries
one_more read n o operands entries (Err fault) rs one further e = absurd (cc (e))
one_more read n o operands entries (Ok entry) (Err fault) one further e = absurd (cc (e))
one_more read n o operands entries (Ok entry) (Ok others) one further e =
    let whole : entry ∷ others ≡ entries = cc (e) in
    let first = one entry refl in
    let rest = further others refl in
    record {
      files = first.file ∷ rest.files;
      sound = (first.is, first.sound, rest.sound);
      same = (λ k. first.same k ∷ rest.same k) ∙ whole;
    }

entries_sound : (read : Reads) (n : ℕ) (operands : List Operand) (entries : List Plain) → found_entries read n operands ≡ Ok entries → AreSoundEntries read n operands entries
entries_sound read n [] entries e =
    let none_left : [] ≡ entries = cc (e) in
    record { files = []; sound = tt; same = none_left }
entries_sound read n (o ∷ operands) entries e =
    one_more read n o operands entries (found_entry o.place (read n (without_one_leading_dot_slash o.text))) (found_entries read (n + 1) operands)
    (found_sound o.place (read n (without_one_leading_dot_slash o.text))) (entries_sound read (n + 1) operands) e

-- ---- in the index

packages_stand : (description : List ℕ) (entries : List Plain) → packages_in (value_of_index description entries) ≡ entries
unfolding value_of_index
packages_stand description entries =
    ap (λ (v : Plain). list_of (entries_in v)) (nth_obj (more (blob_or_null description) (more (array_or_null (plains_of_list entries)) none)) 1)
    ∙ (ap list_of (entries_arr (plains_of_list entries)) ∙ list-plains entries)

-- entries that are put in order
abbrev pub Same : Type 0
Same = (entries : List Plain) → IsPermutation entries (sorted_by index_entry_cmp entries)

abbrev pub Sorted : Type 0
Sorted = (entries : List Plain) → IsSorted index_entry_cmp (sorted_by index_entry_cmp entries)

in_order : Same → Sorted → (read : Reads) (operands : List Operand) (description : List ℕ) (index : Plain) (found : Result (List Plain) MakeFault) → found_entries read 0 operands ≡ found
    → index_value_of_entries description found ≡ Ok index → HasSortedEntriesOfOperands read operands index
in_order same sorted read operands description index (Err fault) is e = absurd (cc (e))
in_order same sorted read operands description index (Ok entries) is e =
    let are = entries_sound read 0 operands entries is in
    let value : value_of_index description (sorted_by index_entry_cmp entries) ≡ index = cc (e) in
    let stand : sorted_by index_entry_cmp entries ≡ packages_in index = sym (packages_stand description (sorted_by index_entry_cmp entries)) ∙ ap packages_in value in
    record {
      files = are.files;
      sound = are.sound;
      same = subst (λ (l : List Plain). IsPermutation l (packages_in index)) (sym are.same) (subst (IsPermutation entries) stand (same entries));
      sorted = subst (IsSorted index_entry_cmp) stand (sorted entries);
    }

pub made_in_order : Same → Sorted → Back → Exact → Values → (command : CommandLine) (read : Reads) (bytes : List ℕ) → EachOperandReadFindsNoFileOrFileBytes read 0 command.operands → made_index command read ≡ Ok bytes
    → HasSortedEntriesOfOperands read command.operands (root_value_of_payload Index (payload_in bytes))
made_in_order same sorted back exact values command read bytes files e =
    in_order same sorted read command.operands (first_description_or_empty command.values) (root_value_of_payload Index (payload_in bytes)) (found_entries read 0 command.operands) refl
    (made_back back exact values command read bytes files e)
