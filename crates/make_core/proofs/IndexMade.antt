-- The file of an index, and why there is none.
use Rattle.std.proofs.Common.{◌≡◌, ℕ, List, Result, Ok, Err, ap, sym, subst, ◌∙◌}
use Rattle.pkg_core.specs.adb_schema.declared.read.TheConstants.{INDEX_WORD}
use Rattle.adb_view.specs.Plain.{Plain}
use Rattle.adb_copy.specs.adb_write.Canonical.{ByteAndValueCounts, payload_or_counts_at_overflow}
use Rattle.adb_copy.specs.adb_write.File.{file_of}
use Rattle.make_core.specs.Index.{index_container, index_of_entries, value_of_index}
use Rattle.make_core.specs.Kept.{AgreesUnlessMemory}
use Rattle.make_info.specs.Faults.{IsOverflowFault}
use Rattle.make_core.specs.EntryOrder.{index_entry_cmp}
use Rattle.base_core.specs.Sorted.{sorted_by}
use Rattle.make_info.specs.declared.fault.MakeFault.{MakeFault}
use Rattle.make_info.specs.declared.fault.MakeFault.TheVariants.{FileMissing, FileBad, InfoBad, TooLarge, Disk, Memory}

pub made_ok : (d : List ℕ) (sorted es : List Plain) (payload bytes file : List ℕ) → sorted ≡ sorted_by index_entry_cmp es → payload_or_counts_at_overflow (value_of_index d sorted) ≡ Ok payload → bytes ≡ payload → file ≡ file_of INDEX_WORD bytes → index_of_entries d es ≡ Ok file
unfolding index_of_entries
made_ok d sorted es payload bytes file order made is e =
    ap (λ (xs : List Plain). index_container (payload_or_counts_at_overflow (value_of_index d xs))) (sym order) ∙ (ap index_container made ∙ ap Ok (ap (file_of INDEX_WORD) (sym is) ∙ sym e))

overflow_made : {A : Type 0} (view : A → List ℕ) (fault : MakeFault) (told : Result (List ℕ) ByteAndValueCounts) → IsOverflowFault fault told → AgreesUnlessMemory view (Err fault) (index_container told)
overflow_made view (FileMissing p) told h = absurd h
overflow_made view (FileBad p c) told h = absurd h
overflow_made view (InfoBad p) told h = absurd h
overflow_made view (TooLarge bytes values) told h = ap index_container h
overflow_made view Disk told h = absurd h
overflow_made view Memory told h = tt

pub made_err : {A : Type 0} (view : A → List ℕ) (d : List ℕ) (sorted es : List Plain) (fault : MakeFault) (result : Result A MakeFault) → sorted ≡ sorted_by index_entry_cmp es → IsOverflowFault fault (payload_or_counts_at_overflow (value_of_index d sorted)) → result ≡ Err fault → AgreesUnlessMemory view result (index_of_entries d es)
unfolding index_of_entries
made_err view d sorted es fault result order h e =
    subst (λ r. AgreesUnlessMemory view r (index_container (payload_or_counts_at_overflow (value_of_index d (sorted_by index_entry_cmp es))))) (sym e)
    (overflow_made view fault (payload_or_counts_at_overflow (value_of_index d (sorted_by index_entry_cmp es))) (subst (λ (xs : List Plain). IsOverflowFault fault (payload_or_counts_at_overflow (value_of_index d xs))) order h))
