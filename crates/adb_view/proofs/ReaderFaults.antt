-- Why a reader refuses a word: it is of another kind, or what it points to leaves the payload.
use Rattle.std.proofs.Common.{◌≡◌, ℕ, Bool, true, false, List, Option, Some, None, Result, Ok, Err, refl, subst}
use Rattle.std.specs.Prelude.{if◌then◌else◌, ◌==◌}
use Rattle.std.specs.Result.{result_ok}
use Rattle.std.specs.Int.{w8, w16, w32, w64}
use Rattle.adb_view.specs.Bytes.{number_at}
use Rattle.adb_view.specs.Readers.{int_of, blob_of, run_entries_of_kind_in_payload_at_word, run_entries_at, length_prefixed_bytes_at, kind_number_of_word, low_28_bits, or_outside_cause}
use Rattle.adb_view.specs.VisitFault.{is_reader_fault}
use Rattle.base_core.specs.declared.cause.Cause.{Cause}

abbrev IsReaderAnswer : {A : Type 0} → Result A Cause → Type 0
IsReaderAnswer (Ok x) = Unit {0}
IsReaderAnswer (Err c) = is_reader_fault c ≡ true

either : {A : Type 0} (b : Bool) (x y : Result A Cause) → IsReaderAnswer x → IsReaderAnswer y → IsReaderAnswer (if b then x else y)
either true x y hx hy = hx
either false x y hx hy = hy

inside_answer : {A : Type 0} (w : ℕ) (o : Option A) → IsReaderAnswer (or_outside_cause w o)
inside_answer w (Some x) = tt
inside_answer w None = refl

of_answer : {A : Type 0} (r : Result A Cause) (c : Cause) → IsReaderAnswer r → r ≡ Err c → is_reader_fault c ≡ true
of_answer r c h e = subst IsReaderAnswer e h

int_answer : (p : List ℕ) (w : ℕ) → IsReaderAnswer (int_of p w)
unfolding int_of
int_answer p w =
    either (w == 0) _ _ tt
    (either (kind_number_of_word w == 1) _ _ tt
    (either (kind_number_of_word w == 2) _ _ (inside_answer w (number_at w32 p (low_28_bits w)))
    (either (kind_number_of_word w == 3) _ _ (inside_answer w (number_at w64 p (low_28_bits w))) refl)))

blob_answer : (p : List ℕ) (w : ℕ) → IsReaderAnswer (blob_of p w)
unfolding blob_of
blob_answer p w =
    either (w == 0) _ _ tt
    (either (kind_number_of_word w == 8) _ _ (inside_answer w (length_prefixed_bytes_at w8 p (low_28_bits w)))
    (either (kind_number_of_word w == 9) _ _ (inside_answer w (length_prefixed_bytes_at w16 p (low_28_bits w)))
    (either (kind_number_of_word w == 10) _ _ (inside_answer w (length_prefixed_bytes_at w32 p (low_28_bits w))) refl)))

run_answer : (kind : ℕ) (p : List ℕ) (w : ℕ) → IsReaderAnswer (run_entries_of_kind_in_payload_at_word kind p w)
unfolding run_entries_of_kind_in_payload_at_word
run_answer kind p w =
    either (w == 0) _ _ tt
    (either (kind_number_of_word w == kind) _ _ (inside_answer w (run_entries_at p (low_28_bits w))) refl)

pub int_fault : (p : List ℕ) (w : ℕ) (c : Cause) → int_of p w ≡ Err c → is_reader_fault c ≡ true
int_fault p w c e = of_answer (int_of p w) c (int_answer p w) e

pub blob_fault : (p : List ℕ) (w : ℕ) (c : Cause) → blob_of p w ≡ Err c → is_reader_fault c ≡ true
blob_fault p w c e = of_answer (blob_of p w) c (blob_answer p w) e

pub run_fault : (kind : ℕ) (p : List ℕ) (w : ℕ) (c : Cause) → run_entries_of_kind_in_payload_at_word kind p w ≡ Err c → is_reader_fault c ≡ true
run_fault kind p w c e = of_answer (run_entries_of_kind_in_payload_at_word kind p w) c (run_answer kind p w) e

-- what was read, whatever it is shown as
pub read_ok : {A : Type 0} (r : Result A Cause) (x : A) → result_ok r ≡ Some x → r ≡ Ok x
read_ok (Ok y) x e = cc
read_ok (Err c) x e = absurd cc
