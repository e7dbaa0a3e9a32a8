-- For callers: a blob has its word in whatever a draft becomes.
use Rattle.std.proofs.Common.{◌≡◌, ℕ, Bool, true, false, List, [], ◌∷◌, ◌++◌, length, refl, sym, ap, subst, ◌∙◌}
use Rattle.adb_view.specs.Plain.{Plain, null, int, blob, arr, obj, Plains, none, more, array_or_null, blob_or_null, trimmed_object_or_null}
use Rattle.adb_write.specs.Again.{HasAllItemsUnlessPastLimit, IsWordOfBlob}
use Rattle.adb_write.specs.Canonical.{Cell, in_place, apart, blob_cell}
use Rattle.adb_write.specs.DepthFirst.{WritesValueDepthFirst}
use Rattle.adb_write.specs.Writing.{Writing, call, blob_call, arr_call, obj_call, calls, calls_all, is_past_limit}
use Rattle.adb_write.proofs.DepthFirst.{calls_arr, calls_blob, calls_obj}
use Rattle.adb_write.proofs.Kept.{LeavesWords, arr_keeps, blob_keeps, int_keeps, new_word, obj_keeps}
use Rattle.adb_values.specs.Drafts.{DraftState, draft_from_parts, draft_with, draft_with_all, draft_with_open_list}
use Rattle.adb_values.specs.Words.{HasBlob}
use Rattle.adb_values.proofs.Taken.{takes_all}

-- ---- a blob that is added by its word

over_call : (c : Cell) (w : Writing) → is_past_limit w ≡ true → ◌≡◌ {A = ℕ × Writing} (call c w) (0, w)
unfolding call
over_call (in_place word) w o = rw o refl
over_call (apart i) w o = rw o refl

pub written_again : (b : List ℕ) (word x : ℕ) (w : Writing) → IsWordOfBlob w b word → (is_past_limit w ≡ false → x ≡ word) → (is_past_limit w ≡ true → x ≡ 0) → WritesValueDepthFirst w (blob_or_null b) x w
written_again b word x w is within over = go (is_past_limit w) refl
  where
    go : (past : Bool) → is_past_limit w ≡ past → WritesValueDepthFirst w (blob_or_null b) x w
    go true o = record { is = ap (λ (k : ℕ). (k, w)) (over o) ∙ sym (over_call (blob_cell b) w o) ∙ sym (calls_blob b w) }
    go false o = record { is = ap (λ (k : ℕ). (k, w)) (within o) ∙ sym (is o) ∙ sym (calls_blob b w) }

-- ---- a blob that is added and has its word from then on

pub call_whole : (x : ℕ) (w later : Writing) (r : ℕ × Writing) → LeavesWords w r.1 → ◌≡◌ {A = ℕ × Writing} (x, later) r → HasAllItemsUnlessPastLimit later
call_whole x w later r p e = subst (λ (s : ℕ × Writing). HasAllItemsUnlessPastLimit s.1) (sym e) p.whole

pub blob_has : (b : List ℕ) (x : ℕ) (w later : Writing) (words starts : List ℕ) → HasAllItemsUnlessPastLimit w → ◌≡◌ {A = ℕ × Writing} (x, later) (blob_call b w) → HasBlob (draft_from_parts later words starts) b x
blob_has b x w later words starts h e = record {
  is = subst (λ (r : ℕ × Writing). IsWordOfBlob r.1 b r.0) (sym e) (new_word b w h);
  whole = call_whole x w later (blob_call b w) (blob_keeps b w h) e;
}

-- ---- what calls leave

left : (w : Writing) → HasAllItemsUnlessPastLimit w → LeavesWords w w
left w h = record { whole = h; words = λ b word is. is }

then : (a b c : Writing) → LeavesWords a b → LeavesWords b c → LeavesWords a c
then a b c p q = record { whole = q.whole; words = λ bytes word is. q.words bytes word (p.words bytes word is) }

mutual
  unfolding calls

  pub keeps : (v : Plain) (w : Writing) → HasAllItemsUnlessPastLimit w → LeavesWords w (calls v w).1
  keeps null w h = left w h
  keeps (int n) w h = int_keeps n w h
  keeps (blob b) w h = blob_keeps b w h
  keeps (arr vs) w h =
      let p = keeps_all vs w h in
      then w (calls_all vs w).1 (calls (arr vs) w).1 p (arr_keeps (calls_all vs w).0 (calls_all vs w).1 p.whole)
  keeps (obj vs) w h =
      let p = keeps_all vs w h in
      then w (calls_all vs w).1 (calls (obj vs) w).1 p (obj_keeps (calls_all vs w).0 (calls_all vs w).1 p.whole)

  pub keeps_all : (vs : Plains) (w : Writing) → HasAllItemsUnlessPastLimit w → LeavesWords w (calls_all vs w).1
  keeps_all none w h = left w h
  keeps_all (more v vs) w h =
      let p = keeps v w h in
      then w (calls v w).1 (calls_all vs (calls v w).1).1 p (keeps_all vs (calls v w).1 p.whole)

-- ---- a blob of a draft

has_by : (d : DraftState) (w : Writing) (b : List ℕ) (word : ℕ) → LeavesWords d.writing w → HasBlob d b word → (later : DraftState) → later.writing ≡ w → HasBlob later b word
has_by d w b word p h later e = record {
  is = subst (λ (x : Writing). IsWordOfBlob x b word) (sym e) (p.words b word h.is);
  whole = subst HasAllItemsUnlessPastLimit (sym e) p.whole;
}

-- a value is added
pub has_more : (v : Plain) (d later : DraftState) (b : List ℕ) (word : ℕ) → HasBlob d b word → later ≡ draft_with v d → HasBlob later b word
unfolding draft_with
has_more v d later b word h e = has_by d (calls v d.writing).1 b word (keeps v d.writing h.whole) h later (ap (λ (x : DraftState). x.writing) e)

-- a list is opened
pub has_opened : (d later : DraftState) (b : List ℕ) (word : ℕ) → HasBlob d b word → later ≡ draft_with_open_list d → HasBlob later b word
unfolding draft_with_open_list
has_opened d later b word h e = has_by d d.writing b word (left d.writing h.whole) h later (ap (λ (x : DraftState). x.writing) e)

-- what an open list holds was written
open_writing : (vs : Plains) (before d : DraftState) → d ≡ draft_with_all vs (draft_with_open_list before) → d.writing ≡ (calls_all vs before.writing).1
unfolding draft_with_open_list
open_writing vs before d is =
    ap (λ (e : DraftState). e.writing) (is ∙ takes_all vs before.writing before.words (before.starts ++ length before.words ∷ []))

-- a list is closed
pub has_closed_array : (vs : Plains) (before d later : DraftState) (b : List ℕ) (word : ℕ) → HasBlob d b word → d ≡ draft_with_all vs (draft_with_open_list before) → later ≡ draft_with (array_or_null vs) before → HasBlob later b word
unfolding draft_with
has_closed_array vs before d later b word h is e =
    let there : d.writing ≡ (calls_all vs before.writing).1 = open_writing vs before d is in
    let closed : later.writing ≡ (arr_call (calls_all vs before.writing).0 d.writing).1 =
    ap (λ (x : DraftState). x.writing) e ∙ ap (λ (r : ℕ × Writing). r.1) (calls_arr vs before.writing) ∙ ap (λ (w : Writing). (arr_call (calls_all vs before.writing).0 w).1) (sym there) in
    has_by d (arr_call (calls_all vs before.writing).0 d.writing).1 b word (arr_keeps (calls_all vs before.writing).0 d.writing h.whole) h later closed

pub has_closed_object : (vs : Plains) (before d later : DraftState) (b : List ℕ) (word : ℕ) → HasBlob d b word → d ≡ draft_with_all vs (draft_with_open_list before) → later ≡ draft_with (trimmed_object_or_null vs) before → HasBlob later b word
unfolding draft_with
has_closed_object vs before d later b word h is e =
    let there : d.writing ≡ (calls_all vs before.writing).1 = open_writing vs before d is in
    let closed : later.writing ≡ (obj_call (calls_all vs before.writing).0 d.writing).1 =
    ap (λ (x : DraftState). x.writing) e ∙ ap (λ (r : ℕ × Writing). r.1) (calls_obj vs before.writing) ∙ ap (λ (w : Writing). (obj_call (calls_all vs before.writing).0 w).1) (sym there) in
    has_by d (obj_call (calls_all vs before.writing).0 d.writing).1 b word (obj_keeps (calls_all vs before.writing).0 d.writing h.whole) h later closed
