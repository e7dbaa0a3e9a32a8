-- A list that is closed is one value more of the draft from before it was opened.
use Rattle.std.proofs.Common.{◌≡◌, ℕ, ◌+◌, ◌-◌, List, [], ◌∷◌, ◌++◌, length, take, drop, Option, Some, slice_get, refl, ap, ◌∙◌, arith, length-append, length-drop, take_all}
use Rattle.std.specs.Prelude.{min}
use Rattle.std.proofs.Math.Seq.{take-append_seam, drop-append_seam}
use Rattle.adb_view.specs.Plain.{Plain, Plains}
use Rattle.adb_write.specs.DepthFirst.{WritesValueDepthFirst, WritesValuesDepthFirst}
use Rattle.adb_write.specs.Writing.{Writing, calls_all}
use Rattle.adb_values.specs.Drafts.{DraftState, draft_from_parts, draft_with, draft_with_all, draft_with_open_list}
use Rattle.adb_values.specs.LastList.{last_of, last_open_list_start, open_list_start_within}
use Rattle.adb_values.proofs.Taken.{takes, takes_all}

get_end : (xs : List ℕ) (x : ℕ) → slice_get (xs ++ x ∷ []) (length xs) ≡ Some x
get_end [] x = refl
get_end (y ∷ ys) x = get_end ys x

one_less : (xs : List ℕ) (x : ℕ) → length (xs ++ x ∷ []) - 1 ≡ length xs
one_less xs x = omega (arith, length-append xs (x ∷ []))

last-push : (xs : List ℕ) (x : ℕ) → last_of (xs ++ x ∷ []) ≡ Some x
last-push xs x = ap (λ (k : ℕ). slice_get (xs ++ x ∷ []) k) (one_less xs x) ∙ get_end xs x

but_last : (xs : List ℕ) (x : ℕ) → take (length (xs ++ x ∷ []) - 1) (xs ++ x ∷ []) ≡ xs
but_last xs x = ap (λ (k : ℕ). take k (xs ++ x ∷ [])) (one_less xs x) ∙ take-append_seam xs (x ∷ [])

min_front : (a b n : ℕ) → n ≡ a + b → min a n ≡ a
min_front a b n e = omega (arith, e)

-- what a slice from a start on has
pub tail_is : (p words : List ℕ) (start : ℕ) → p ≡ words → take (length p - start) (drop start p) ≡ drop start words
tail_is p words start e =
    take_all (length p - start) (drop start p) (omega (arith, length-drop start p)) ∙ ap (λ (l : List ℕ). drop start l) e

-- a draft in which a list was opened, and words came
record IsOpen (d before : DraftState) (xs : List ℕ) (later : Writing) : Type 0 where
  pub writing : d.writing ≡ later
  pub words : d.words ≡ before.words ++ xs
  pub starts : d.starts ≡ before.starts ++ length before.words ∷ []

is_open : (vs : Plains) (d before : DraftState) → d ≡ draft_with_all vs (draft_with_open_list before) → IsOpen d before (calls_all vs before.writing).0 (calls_all vs before.writing).1
unfolding draft_with_open_list
is_open vs d before is =
    let all : d ≡ draft_from_parts (calls_all vs before.writing).1 (before.words ++ (calls_all vs before.writing).0) (before.starts ++ length before.words ∷ []) = is ∙ takes_all vs before.writing before.words (before.starts ++ length before.words ∷ []) in
    record {
      writing = ap (λ (e : DraftState). e.writing) all;
      words = ap (λ (e : DraftState). e.words) all;
      starts = ap (λ (e : DraftState). e.starts) all;
    }

start_of : (d before : DraftState) (xs : List ℕ) (later : Writing) → IsOpen d before xs later → last_open_list_start d ≡ length before.words
start_of d before xs later o =
    ap (λ (l : List ℕ). open_list_start_within (last_of l) (length d.words)) o.starts
    ∙ ap (λ (s : Option ℕ). open_list_start_within s (length d.words)) (last-push before.starts (length before.words))
    ∙ min_front (length before.words) (length xs) (length d.words) (ap (λ (l : List ℕ). length l) o.words ∙ length-append before.words xs)

-- The words from the start on are those of the values of the list: so the list is closed with what
-- the writer makes of them.
pub closes : (v : Plain) (vs : Plains) (before old : DraftState) (tail : List ℕ) (word start : ℕ) (new : Writing) (words starts : List ℕ)
    → old ≡ draft_with_all vs (draft_with_open_list before) → start ≡ last_open_list_start old → tail ≡ drop start old.words
    → (WritesValuesDepthFirst before.writing vs tail old.writing → WritesValueDepthFirst before.writing v word new)
    → words ≡ take start old.words ++ word ∷ [] → starts ≡ take (length old.starts - 1) old.starts
    → draft_from_parts new words starts ≡ draft_with v before
closes v vs before old tail word start new words starts is at tail_at wrote words_is starts_is =
    let xs : List ℕ = (calls_all vs before.writing).0 in
    let later : Writing = (calls_all vs before.writing).1 in
    let o : IsOpen old before xs later = is_open vs old before is in
    let begin : start ≡ length before.words = at ∙ start_of old before xs later o in
    let rest : tail ≡ xs = tail_at ∙ ap (λ (k : ℕ). drop k old.words) begin ∙ ap (λ (l : List ℕ). drop (length before.words) l) o.words ∙ drop-append_seam before.words xs in
    let front : take start old.words ≡ before.words = ap (λ (k : ℕ). take k old.words) begin ∙ ap (λ (l : List ℕ). take (length before.words) l) o.words ∙ take-append_seam before.words xs in
    let lists : starts ≡ before.starts = starts_is ∙ ap (λ (l : List ℕ). take (length l - 1) l) o.starts ∙ but_last before.starts (length before.words) in
    let both : ◌≡◌ {A = List ℕ × Writing} (tail, old.writing) (xs, later) = ap (λ (l : List ℕ). (l, old.writing)) rest ∙ ap (λ (w : Writing). (xs, w)) o.writing in
    ap (λ (l : List ℕ). draft_from_parts new words l) lists
    ∙ takes v before.writing new before.words words before.starts word (wrote (record { is = both })) (words_is ∙ ap (λ (l : List ℕ). l ++ word ∷ []) front)
