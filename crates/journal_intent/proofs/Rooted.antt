-- The payload of an intent is the canonical one, or it overflows.
use Rattle.std.proofs.Common.{◌≡◌, ℕ, List, Option, Some, None, Result, Ok, Err, refl, sym, ap, subst, ◌∙◌}
use Rattle.adb_view.specs.Plain.{Plain, none, more, array_or_null, trimmed_object_or_null, plains_of_texts}
use Rattle.adb_values.specs.Drafts.{DraftState, empty_draft, draft_with_open_list, draft_with}
use Rattle.adb_values.specs.Written.{IsWrittenAs}
use Rattle.adb_values.proofs.Lists.{Closes}
use Rattle.adb_sound.specs.adb_write.Canonical.{ByteAndValueCounts, canonical, counts_at_first_overflow, payload_unless_overflow, payload_or_counts_at_overflow}
use Rattle.adb_sound.specs.adb_write.declared.writer.WriteFault.{WriteFault}
use Rattle.adb_sound.specs.adb_write.declared.writer.WriteFault.TheVariants.{TooLarge}
use Rattle.journal_intent.specs.Intent.{Intent}
use Rattle.journal_intent.specs.IntentValue.{value_of_intent}

-- two arrays in an object are the intent's value
pub intent_given : (intent : Intent) (a b c d e : DraftState) → a ≡ empty_draft → b ≡ draft_with_open_list a → c ≡ draft_with (array_or_null (plains_of_texts intent.removals)) b → d ≡ draft_with (array_or_null (plains_of_texts intent.writes)) c → Closes trimmed_object_or_null d e
    → e ≡ draft_with (value_of_intent intent) empty_draft
intent_given intent a b c d e start opened first second last =
    let chain : d ≡ draft_with (array_or_null (plains_of_texts intent.writes)) (draft_with (array_or_null (plains_of_texts intent.removals)) (draft_with_open_list a)) = cc in
    last (more (array_or_null (plains_of_texts intent.removals)) (more (array_or_null (plains_of_texts intent.writes)) none)) a chain ∙ ap (λ (x : DraftState). draft_with (value_of_intent intent) x) start

pub payload_fits : (v : Plain) (payload : List ℕ) → payload_or_counts_at_overflow v ≡ Ok payload → (counts_at_first_overflow v ≡ None) × (payload ≡ canonical v)
unfolding payload_or_counts_at_overflow
payload_fits v payload is = by (counts_at_first_overflow v) refl
  where
    by : (o : Option ByteAndValueCounts) → counts_at_first_overflow v ≡ o → (counts_at_first_overflow v ≡ None) × (payload ≡ canonical v)
    by None e = (e, let same = sym is ∙ ap (payload_unless_overflow (canonical v)) e in cc)
    by (Some counts) e = absurd (let other = sym is ∙ ap (payload_unless_overflow (canonical v)) e in cc)

pub payload_large : (v : Plain) (counts : ByteAndValueCounts) → payload_or_counts_at_overflow v ≡ Err counts → counts_at_first_overflow v ≡ Some counts
unfolding payload_or_counts_at_overflow
payload_large v counts is = by (counts_at_first_overflow v) refl
  where
    by : (o : Option ByteAndValueCounts) → counts_at_first_overflow v ≡ o → counts_at_first_overflow v ≡ Some counts
    by None e = absurd (let other = sym is ∙ ap (payload_unless_overflow (canonical v)) e in cc)
    by (Some found) e = e ∙ (let same = sym is ∙ ap (payload_unless_overflow (canonical v)) e in cc)

pub large_of : {A : Type 0} (view : A → List ℕ) (fault : WriteFault) (bytes values : ℕ) (answer : Result (List ℕ) ByteAndValueCounts) → IsWrittenAs view (Err fault) answer → fault ≡ TooLarge bytes values → answer ≡ Err (bytes, values)
large_of view fault bytes values answer told is = subst (λ (f : WriteFault). IsWrittenAs view (Err f) answer) is told
