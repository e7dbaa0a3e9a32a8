-- The values that a function makes of the elements of a list are given one after the other.
use Rattle.std.proofs.Common.{◌≡◌, ℕ, ◌+◌, ◌<◌, ◌≤◌, List, length, map, get_or, drop, Some, refl, sym, ◌∙◌, ap}
use Rattle.std.proofs.lemmas.Option.{slice_get-get_or}
use Rattle.adb_view.specs.Plain.{Plain}
use Rattle.adb_values.specs.Drafts.{DraftState, draft_with, draft_with_all, draft_with_open_list}
use Rattle.adb_values.proofs.Lists.{left_more, left_none, list_given}
use Rattle.make_info.specs.Values.{plains_of_list}

abbrev pub with_list : List Plain → DraftState → DraftState
with_list vs d = draft_with_all (plains_of_list vs) d

-- a loop gives the value of the next element
pub mapped_left : {X : Type 0} (f : X → Plain) (xs : List X) (i : ℕ) (x d : X) (old new whole : DraftState) → i < length xs → x ≡ get_or xs i d → with_list (map f (drop i xs)) old ≡ whole → new ≡ draft_with (f x) old
    → with_list (map f (drop (i + 1) xs)) new ≡ whole
mapped_left f xs i x d old new whole l h left one =
    left_more (λ ys. plains_of_list (map f ys)) f xs whole (λ y ys. refl) i x old new (slice_get-get_or xs i d l ∙ ap (λ y. Some y) (sym h)) left one

-- all are given
pub mapped_given : {X : Type 0} (f : X → Plain) (xs : List X) (i : ℕ) (d whole : DraftState) → length xs ≤ i → with_list (map f (drop i xs)) d ≡ whole → d ≡ whole
mapped_given f xs i d whole h left = left_none (λ ys. plains_of_list (map f ys)) f xs whole refl i d h left

-- all are given to a list that was opened
pub mapped_open : {X : Type 0} (f : X → Plain) (xs : List X) (i : ℕ) (d opened before : DraftState) → length xs ≤ i → with_list (map f (drop i xs)) d ≡ with_list (map f xs) opened → opened ≡ draft_with_open_list before
    → d ≡ with_list (map f xs) (draft_with_open_list before)
mapped_open f xs i d opened before h left is = list_given (λ ys. plains_of_list (map f ys)) xs refl i d opened before h left is
