-- The files that are owned, one more at a time.
use Rattle.std.proofs.Common.{◌≡◌, ℕ, suc, zero, ◌+◌, ◌<◌, ◌≤◌, Bool, true, false, List, [], ◌∷◌, drop, length, refl, ap, sym, ◌∙◌, arith, true≢false}
use Rattle.std.specs.Prelude.{slice_get, unwrap_or}
use Rattle.adb_view.specs.Plain.{Plain, Plains, none, more}
use Rattle.adb_view.specs.Values.{nth, count_of}
use Rattle.adb_copy.specs.adb_fields.Repeated.{list_of}
use Rattle.adb_copy.specs.adb_values.Drafts.{DraftState, draft_with_open_list, draft_with, draft_with_all}
use Rattle.adb_copy.specs.Zeros.{without_zeros}
use Rattle.db_core.specs.NewDatabase.{owned_entries_without_zeros}

-- the flag at a place; none is not set
abbrev pub flag : List Bool → ℕ → Bool
flag flags i = unwrap_or (slice_get flags i) false

marked_in : (vs : Plains) (flags : List Bool) (i : ℕ) → i < count_of vs → flag flags i ≡ true
    → owned_entries_without_zeros (drop i (list_of vs)) (drop i flags) ≡ more (without_zeros (nth vs i)) (owned_entries_without_zeros (drop (suc i) (list_of vs)) (drop (suc i) flags))
marked_in none flags i h g = absurd (omega arith)
marked_in (more v vs) [] zero h g = absurd (true≢false (sym g))
marked_in (more v vs) [] (suc i) h g = absurd (true≢false (sym g))
marked_in (more v vs) (true ∷ bs) zero h g = refl
marked_in (more v vs) (false ∷ bs) zero h g = absurd (true≢false (sym g))
marked_in (more v vs) (b ∷ bs) (suc i) h g = marked_in vs bs i (omega arith) g

none_owned : (files : List Plain) → owned_entries_without_zeros files [] ≡ none
none_owned [] = refl
none_owned (file ∷ files) = refl

marked_out : (vs : Plains) (flags : List Bool) (i : ℕ) → i < count_of vs → flag flags i ≡ false
    → owned_entries_without_zeros (drop i (list_of vs)) (drop i flags) ≡ owned_entries_without_zeros (drop (suc i) (list_of vs)) (drop (suc i) flags)
marked_out none flags i h g = absurd (omega arith)
marked_out (more v vs) [] zero h g = sym (none_owned (list_of vs))
marked_out (more v vs) [] (suc i) h g = none_owned (drop i (list_of vs)) ∙ sym (none_owned (drop (suc i) (list_of vs)))
marked_out (more v vs) (true ∷ bs) zero h g = absurd (true≢false g)
marked_out (more v vs) (false ∷ bs) zero h g = refl
marked_out (more v vs) (b ∷ bs) (suc i) h g = marked_out vs bs i (omega arith) g

pub no_flag : (flags : List Bool) (i : ℕ) → length flags ≤ i → false ≡ flag flags i
no_flag [] zero h = refl
no_flag [] (suc i) h = refl
no_flag (b ∷ bs) zero h = absurd (omega arith)
no_flag (b ∷ bs) (suc i) h = no_flag bs i (omega arith)

-- the values of the files from a place on that are owned
abbrev pub owned_from : Plains → List Bool → ℕ → Plains
owned_from vs flags i = owned_entries_without_zeros (drop i (list_of vs)) (drop i flags)

none_left : (vs : Plains) (flags : List Bool) (i : ℕ) → count_of vs ≤ i → owned_from vs flags i ≡ none
none_left none flags zero h = refl
none_left none flags (suc i) h = refl
none_left (more v vs) flags zero h = absurd (omega arith)
none_left (more v vs) [] (suc i) h = none_owned (drop i (list_of vs))
none_left (more v vs) (b ∷ bs) (suc i) h = none_left vs bs i (omega arith)

pub put_in : (vs : Plains) (flags : List Bool) (i : ℕ) (m : Bool) (old new whole : DraftState) → i < count_of vs → m ≡ flag flags i → m ≡ true
    → draft_with_all (owned_from vs flags i) old ≡ whole → new ≡ draft_with (without_zeros (nth vs i)) old → draft_with_all (owned_from vs flags (i + 1)) new ≡ whole
put_in vs flags i m old new whole h g t so one =
    let n : i + 1 ≡ suc i = omega arith in
    ap (λ (k : ℕ). draft_with_all (owned_from vs flags k) new) n
    ∙ ap (λ (d : DraftState). draft_with_all (owned_from vs flags (suc i)) d) one
    ∙ sym (ap (λ (us : Plains). draft_with_all us old) (marked_in vs flags i h (sym g ∙ t))) ∙ so

pub left_out : (vs : Plains) (flags : List Bool) (i : ℕ) (m : Bool) (old new whole : DraftState) → i < count_of vs → m ≡ flag flags i → m ≡ false
    → draft_with_all (owned_from vs flags i) old ≡ whole → new ≡ old → draft_with_all (owned_from vs flags (i + 1)) new ≡ whole
left_out vs flags i m old new whole h g t so same =
    let n : i + 1 ≡ suc i = omega arith in
    ap (λ (k : ℕ). draft_with_all (owned_from vs flags k) new) n
    ∙ ap (λ (d : DraftState). draft_with_all (owned_from vs flags (suc i)) d) same
    ∙ sym (ap (λ (us : Plains). draft_with_all us old) (marked_out vs flags i h (sym g ∙ t))) ∙ so

pub set_flags_of_all_listed_files : (vs : Plains) (flags : List Bool) (i : ℕ) (d opened before : DraftState) → count_of vs ≤ i → draft_with_all (owned_from vs flags i) d ≡ draft_with_all (owned_entries_without_zeros (list_of vs) flags) opened → opened ≡ draft_with_open_list before
    → d ≡ draft_with_all (owned_entries_without_zeros (list_of vs) flags) (draft_with_open_list before)
set_flags_of_all_listed_files vs flags i d opened before h so is =
    sym (ap (λ (us : Plains). draft_with_all us d) (none_left vs flags i h)) ∙ so ∙ ap (λ (e : DraftState). draft_with_all (owned_entries_without_zeros (list_of vs) flags) e) is
