-- The values of a list are given one after another.
use Rattle.std.proofs.Common.{◌≡◌, ℕ, suc, zero, ◌+◌, ◌<◌, ◌≤◌, List, [], ◌∷◌, drop, length, get_or, refl, ap, sym, ◌∙◌, arith}
use Rattle.std.proofs.lemmas.Option.{slice_get-get_or}
use Rattle.adb_view.specs.Plain.{Plain, Plains, none, more, blob_or_null}
use Rattle.adb_view.specs.Values.{nth, count_of}
use Rattle.adb_values.specs.Drafts.{DraftState, draft_with_open_list, draft_with, draft_with_all}
use Rattle.adb_values.proofs.Lists.{left_more, left_none}
use Rattle.adb_copy.specs.Fields.{ints_or_nulls}
use Rattle.adb_copy.specs.Zeros.{int_or_null, without_zeros, all_without_zeros}

-- ---- the values from a place on

abbrev pub rest : ℕ → Plains → Plains
rest zero vs = vs
rest (suc i) none = none
rest (suc i) (more v vs) = rest i vs

rest_at : (i : ℕ) (vs : Plains) → i < count_of vs → rest i vs ≡ more (nth vs i) (rest (suc i) vs)
rest_at zero none h = absurd (omega arith)
rest_at zero (more v vs) h = refl
rest_at (suc i) none h = absurd (omega arith)
rest_at (suc i) (more v vs) h = rest_at i vs (omega arith)

rest_none : (vs : Plains) → rest (count_of vs) vs ≡ none
rest_none none = refl
rest_none (more v vs) = rest_none vs

-- a step over a list: the entry at a place is given
pub zeros_left : (i : ℕ) (vs : Plains) (v : Plain) (old new whole : DraftState) → i < count_of vs → v ≡ nth vs i → draft_with_all (all_without_zeros (rest i vs)) old ≡ whole → new ≡ draft_with (without_zeros v) old
    → draft_with_all (all_without_zeros (rest (i + 1) vs)) new ≡ whole
unfolding without_zeros
zeros_left i vs v old new whole h e left one =
    let next : i + 1 ≡ suc i = omega arith in
    ap (λ (k : ℕ). draft_with_all (all_without_zeros (rest k vs)) new) next
    ∙ ap (λ (d : DraftState). draft_with_all (all_without_zeros (rest (suc i) vs)) d) (one ∙ ap (λ (u : Plain). draft_with (without_zeros u) old) e)
    ∙ sym (ap (λ (us : Plains). draft_with_all (all_without_zeros us) old) (rest_at i vs h)) ∙ left

-- at the end all are
pub zeros_given : (i : ℕ) (vs : Plains) (d opened before : DraftState) → i ≡ count_of vs → draft_with_all (all_without_zeros (rest i vs)) d ≡ draft_with_all (all_without_zeros vs) opened → opened ≡ draft_with_open_list before
    → d ≡ draft_with_all (all_without_zeros vs) (draft_with_open_list before)
unfolding without_zeros
zeros_given i vs d opened before e left is =
    sym (ap (λ (k : ℕ). draft_with_all (all_without_zeros (rest k vs)) d) e ∙ ap (λ (us : Plains). draft_with_all (all_without_zeros us) d) (rest_none vs))
    ∙ left ∙ ap (λ (x : DraftState). draft_with_all (all_without_zeros vs) x) is

pub blob_zeros : (b : List ℕ) → without_zeros (blob_or_null b) ≡ blob_or_null b
unfolding without_zeros
blob_zeros [] = refl
blob_zeros (x ∷ xs) = refl

-- ---- integers

pub ints_left : (ns : List ℕ) (i : ℕ) (old new whole : DraftState) → i < length ns → draft_with_all (ints_or_nulls (drop i ns)) old ≡ whole → new ≡ draft_with (int_or_null (get_or ns i 0)) old
    → draft_with_all (ints_or_nulls (drop (i + 1) ns)) new ≡ whole
ints_left ns i old new whole h left one = left_more ints_or_nulls int_or_null ns whole (λ n ms. refl) i (get_or ns i 0) old new (slice_get-get_or ns i 0 h) left one

pub ints_given : (ns : List ℕ) (i : ℕ) (d whole : DraftState) → length ns ≤ i → draft_with_all (ints_or_nulls (drop i ns)) d ≡ whole → d ≡ whole
ints_given ns i d whole h left = left_none ints_or_nulls int_or_null ns whole refl i d h left
