-- A draft of one value ends with what the writer makes of it.
use Rattle.std.proofs.Common.{◌≡◌, ◌≤◌, ℕ, List, [], ◌∷◌, length, Result, Ok, Err, IfOk, sym, ap, subst, ◌∙◌, inl, inr, arith}
use Rattle.adb_view.specs.Plain.{Plain}
use Rattle.adb_write.specs.Canonical.{ByteAndValueCounts, MOST_BYTES, canonical, empty_layout_counting_root, payload_end_offset, layout_counts, payload_unless_overflow, counts_after_values, write, payload_or_counts_at_overflow}
use Rattle.adb_write.specs.DepthFirst.{WritesValueDepthFirst}
use Rattle.adb_write.specs.WriterState.{IsFinishResult}
use Rattle.adb_write.specs.Writing.{Writing, calls, empty_writing_counting_root, finish_result}
use Rattle.adb_write.specs.declared.writer.WriteFault.{WriteFault}
use Rattle.adb_write.specs.declared.writer.WriteFault.TheVariants.{TooLarge, Memory}
use Rattle.adb_write.proofs.AnyOrder.{fits_of}
use Rattle.adb_write.proofs.Limits.{Ends, calls-end, start_fine}
use Rattle.adb_write.proofs.DepthFirst.{writes_finished}
use Rattle.adb_values.specs.Drafts.{DraftState, draft_from_parts, empty_draft, draft_with}
use Rattle.adb_values.specs.LastList.{last_word}
use Rattle.adb_values.specs.Written.{IsWrittenAs}

pub only_value : (v : Plain) (w : Writing) (words starts : List ℕ) (root : ℕ) → draft_from_parts w words starts ≡ draft_with v empty_draft → root ≡ last_word words → WritesValueDepthFirst empty_writing_counting_root v root w
unfolding draft_with
only_value v w words starts root is root_is =
    let x : ℕ = (calls v empty_writing_counting_root).0 in
    let there : words ≡ x ∷ [] = ap (λ (d : DraftState). d.words) is in
    let word : root ≡ x = root_is ∙ ap last_word there in
    let later : w ≡ (calls v empty_writing_counting_root).1 = ap (λ (d : DraftState). d.writing) is in
    record { is = ap (λ (k : ℕ). (k, w)) word ∙ ap (λ (e : Writing). (x, e)) later }

told : {A : Type 0} (view : A → List ℕ) (w : Writing) (r : Result A WriteFault) (answer : Result (List ℕ) ByteAndValueCounts) → IsFinishResult view w r answer → IsWrittenAs view r answer
told view w (Ok payload) answer h = h
told view w (Err (TooLarge bytes values)) answer h = h
told view w (Err Memory) answer h = tt

pub finishes : {A : Type 0} (view : A → List ℕ) (v : Plain) (w : Writing) (words starts : List ℕ) (root : ℕ) (r : Result A WriteFault)
    → draft_from_parts w words starts ≡ draft_with v empty_draft → root ≡ last_word words → IsFinishResult view w r (finish_result root w) → IsWrittenAs view r (payload_or_counts_at_overflow v)
finishes view v w words starts root r is root_is h =
    told view w r (payload_or_counts_at_overflow v) (subst (λ (a : Result (List ℕ) ByteAndValueCounts). IsFinishResult view w r a) (writes_finished v root w (only_value v w words starts root is root_is)) h)

-- what is written within the limits is short
pub payload_small : (v : Plain) (payload : List ℕ) → payload_or_counts_at_overflow v ≡ Ok payload → length payload ≤ MOST_BYTES
unfolding payload_or_counts_at_overflow
payload_small v payload is = go (calls-end v empty_layout_counting_root start_fine)
  where
    go : Ends (counts_after_values v empty_layout_counting_root) (calls v empty_writing_counting_root) (write v empty_layout_counting_root) → length payload ≤ MOST_BYTES
    go (inl a) =
        let within = a.3 in
        let fits : payload_end_offset (write v empty_layout_counting_root).1 ≤ MOST_BYTES = fits_of (layout_counts (write v empty_layout_counting_root).1) within.fine in
        let size : payload_end_offset (write v empty_layout_counting_root).1 ≡ length (canonical v) = omega arith in
        let same : payload ≡ canonical v = (let e = sym is ∙ ap (payload_unless_overflow (canonical v)) a.0 in cc) in
        subst (λ (p : List ℕ). length p ≤ MOST_BYTES) (sym same) (subst (λ (k : ℕ). k ≤ MOST_BYTES) size fits)
    go (inr b) = absurd (let e = sym is ∙ ap (payload_unless_overflow (canonical v)) b.1 in cc)

pub finish_small : {A : Type 0} (view : A → List ℕ) (v : Plain) (r : Result A WriteFault) → IsWrittenAs view r (payload_or_counts_at_overflow v) → IfOk r (λ payload. length (view payload) ≤ MOST_BYTES)
finish_small view v (Ok payload) h = payload_small v (view payload) h
finish_small view v (Err fault) h = tt
