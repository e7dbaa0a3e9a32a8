-- A record, one change on, while the files only grow.
use Rattle.std.proofs.Common.{◌≡◌, ⊎_elim, ℕ, ◌<◌, ◌≤◌, true, false, ltb, leb, List, [], ◌∷◌, ◌++◌, length, set, get_or, take, Some, refl, sym, ap, subst, ◌∙◌, arith, length-append}
use Rattle.std.proofs.Math.ListN.{get_or-append}
use Rattle.std.proofs.lemmas.List.{length-set, get_or-set_same, get_or-set_other, take-append-le}
use Rattle.std.proofs.lemmas.Bool.{cases_eq, and_from, and_parts, ltb-true, lt-ltb, leb-true, le-leb}
use Rattle.base_core.specs.Tree.{TreeState, File, with_file_changed}
use Rattle.tree_memory.specs.Changes.{empty_state, after_put, first_bytes_of_file, step, state_after_changes, earlier_states, is_stored_prefix, can_record_change, can_record_changes}
use Rattle.tree_memory.specs.declared.store.Change.{Change}
use Rattle.tree_memory.specs.declared.store.Change.TheVariants.{Put, Create, Append, Sync, Rename, Remove, SyncNames, Stay}

-- ---- fronts

pub record IsFront (contents : List (List ℕ)) (file len : ℕ) : Type 0 where
  pub within : file < length contents
  pub fits : len ≤ length (get_or contents file [])

front_from : (contents : List (List ℕ)) (file len : ℕ) → is_stored_prefix contents file len ≡ true → IsFront contents file len
front_from contents file len is =
    let parts = and_parts (ltb file (length contents)) (leb len (length (get_or contents file []))) is in
    record { within = ltb-true file (length contents) parts.0; fits = leb-true len (length (get_or contents file [])) parts.1 }

pub front_is : (contents : List (List ℕ)) (file len : ℕ) → IsFront contents file len → is_stored_prefix contents file len ≡ true
front_is contents file len front = and_from (ltb file (length contents)) (leb len (length (get_or contents file []))) (lt-ltb file (length contents) front.within) (le-leb len (length (get_or contents file [])) front.fits)

-- the files have more bytes at their ends, or there are more of them
pub record Grows (contents more : List (List ℕ)) : Type 0 where
  pub front : (file len : ℕ) → IsFront contents file len → first_bytes_of_file more file len ≡ first_bytes_of_file contents file len
  pub fits : (file len : ℕ) → IsFront contents file len → IsFront more file len

pub grows_not : (contents : List (List ℕ)) → Grows contents contents
grows_not contents = record { front = λ file len is. refl; fits = λ file len is. is }

pub grows_push : (contents : List (List ℕ)) (b : List ℕ) → Grows contents (contents ++ b ∷ [])
grows_push contents b = record {
  front = λ file len is. ap (take len) (get_or-append contents (b ∷ []) [] file is.within);
  fits = λ file len is. record {
    within = omega (arith, is.within, length-append contents (b ∷ []));
    fits = subst (λ (l : List ℕ). len ≤ length l) (sym (get_or-append contents (b ∷ []) [] file is.within)) is.fits;
  };
}

pub grows_set : (contents : List (List ℕ)) (n : ℕ) (piece : List ℕ) → n < length contents → Grows contents (set contents n (get_or contents n [] ++ piece))
grows_set contents n piece within = record { front = front; fits = fits }
  where
    long : List ℕ
    long = get_or contents n [] ++ piece

    here : (file : ℕ) → file ≡ n → get_or (set contents n long) file [] ≡ get_or contents file [] ++ piece
    here file same = ap (λ k. get_or (set contents n long) k []) same ∙ get_or-set_same contents n long [] within ∙ sym (ap (λ k. get_or contents k [] ++ piece) same)

    front : (file len : ℕ) → IsFront contents file len → first_bytes_of_file (set contents n long) file len ≡ first_bytes_of_file contents file len
    front file len is = ⊎_elim (λ same. ap (take len) (here file same) ∙ take-append-le len (get_or contents file []) piece is.fits) (λ other. ap (take len) (get_or-set_other contents n file long [] other)) (cases_eq file n)

    fits : (file len : ℕ) → IsFront contents file len → IsFront (set contents n long) file len
    fits file len is = record {
      within = omega (arith, is.within, length-set contents n long);
      fits = ⊎_elim (λ same. omega (arith, is.fits, ap length (here file same), length-append (get_or contents file []) piece)) (λ other. omega (arith, is.fits, ap length (get_or-set_other contents n file long [] other))) (cases_eq file n);
    }

-- ---- what a record gives stays as it is

step_more : (contents more : List (List ℕ)) → Grows contents more → (c : Change) (v : TreeState) → can_record_change contents c v ≡ true → step more c v ≡ step contents c v
step_more contents more grows (Put name file len) v can = ap (λ (bytes : List ℕ). after_put name bytes v) (grows.front file len (front_from contents file len can))
step_more contents more grows (Create name) v can = refl
step_more contents more grows (Append file len) v can = ap (λ (bytes : List ℕ). with_file_changed (λ (f : File). record { bytes = bytes; synced = false }) v (Some file)) (grows.front file len (front_from contents file len can))
step_more contents more grows (Sync file) v can = refl
step_more contents more grows (Rename from to) v can = refl
step_more contents more grows (Remove name) v can = refl
step_more contents more grows SyncNames v can = refl
step_more contents more grows Stay v can = refl

can_more : (contents more : List (List ℕ)) → Grows contents more → (c : Change) (v : TreeState) → can_record_change contents c v ≡ true → can_record_change more c v ≡ true
can_more contents more grows (Put name file len) v can = front_is more file len (grows.fits file len (front_from contents file len can))
can_more contents more grows (Create name) v can = refl
can_more contents more grows (Append file len) v can = front_is more file len (grows.fits file len (front_from contents file len can))
can_more contents more grows (Sync file) v can = refl
can_more contents more grows (Rename from to) v can = can
can_more contents more grows (Remove name) v can = can
can_more contents more grows SyncNames v can = refl
can_more contents more grows Stay v can = refl

state_more : (contents more : List (List ℕ)) → Grows contents more → (v : TreeState) (cs : List Change) → can_record_changes contents v cs ≡ true → state_after_changes more v cs ≡ state_after_changes contents v cs
state_more contents more grows v [] is = refl
state_more contents more grows v (c ∷ cs) is =
    let parts = and_parts (can_record_change contents c v) (can_record_changes contents (step contents c v) cs) is in
    ap (λ (w : TreeState). state_after_changes more w cs) (step_more contents more grows c v parts.0) ∙ state_more contents more grows (step contents c v) cs parts.1

earlier_more : (contents more : List (List ℕ)) → Grows contents more → (v : TreeState) (earlier : List TreeState) (cs : List Change) → can_record_changes contents v cs ≡ true → earlier_states more v earlier cs ≡ earlier_states contents v earlier cs
earlier_more contents more grows v earlier [] is = refl
earlier_more contents more grows v earlier (c ∷ cs) is =
    let parts = and_parts (can_record_change contents c v) (can_record_changes contents (step contents c v) cs) is in
    ap (λ (w : TreeState). earlier_states more w (v ∷ earlier) cs) (step_more contents more grows c v parts.0) ∙ earlier_more contents more grows (step contents c v) (v ∷ earlier) cs parts.1

record_more : (contents more : List (List ℕ)) → Grows contents more → (v : TreeState) (cs : List Change) → can_record_changes contents v cs ≡ true → can_record_changes more v cs ≡ true
record_more contents more grows v [] is = refl
record_more contents more grows v (c ∷ cs) is =
    let parts = and_parts (can_record_change contents c v) (can_record_changes contents (step contents c v) cs) is in
    and_from (can_record_change more c v) (can_record_changes more (step more c v) cs) (can_more contents more grows c v parts.0)
    (ap (λ (w : TreeState). can_record_changes more w cs) (step_more contents more grows c v parts.0) ∙ record_more contents more grows (step contents c v) cs parts.1)

-- ---- one change on

pub state_after_changes-push : (contents : List (List ℕ)) (v : TreeState) (cs : List Change) (c : Change) → state_after_changes contents v (cs ++ c ∷ []) ≡ step contents c (state_after_changes contents v cs)
state_after_changes-push contents v [] c = refl
state_after_changes-push contents v (d ∷ cs) c = state_after_changes-push contents (step contents d v) cs c

earlier_states-push : (contents : List (List ℕ)) (v : TreeState) (earlier : List TreeState) (cs : List Change) (c : Change)
    → earlier_states contents v earlier (cs ++ c ∷ []) ≡ state_after_changes contents v cs ∷ earlier_states contents v earlier cs
earlier_states-push contents v earlier [] c = refl
earlier_states-push contents v earlier (d ∷ cs) c = earlier_states-push contents (step contents d v) (v ∷ earlier) cs c

record_push : (contents : List (List ℕ)) (v : TreeState) (cs : List Change) (c : Change) → can_record_changes contents v cs ≡ true → can_record_change contents c (state_after_changes contents v cs) ≡ true → can_record_changes contents v (cs ++ c ∷ []) ≡ true
record_push contents v [] c is can = and_from (can_record_change contents c v) true can refl
record_push contents v (d ∷ cs) c is can =
    let parts = and_parts (can_record_change contents d v) (can_record_changes contents (step contents d v) cs) is in
    and_from (can_record_change contents d v) (can_record_changes contents (step contents d v) (cs ++ c ∷ [])) parts.0 (record_push contents (step contents d v) cs c parts.1 can)

-- a front of a record is one, and the change behind it may be recorded
pub record_front : (contents : List (List ℕ)) (v : TreeState) (cs ds : List Change) (c : Change) → can_record_changes contents v (cs ++ c ∷ ds) ≡ true → can_record_change contents c (state_after_changes contents v cs) ≡ true
record_front contents v [] ds c is = (and_parts (can_record_change contents c v) (can_record_changes contents (step contents c v) ds) is).0
record_front contents v (d ∷ cs) ds c is = record_front contents (step contents d v) cs ds c (and_parts (can_record_change contents d v) (can_record_changes contents (step contents d v) (cs ++ c ∷ ds)) is).1

-- a record got one change more, which may be recorded, while the files grew
pub record IsPushed (c : Change) (cs ds : List Change) (contents more : List (List ℕ)) : Type 0 where
  pub recorded : can_record_changes contents empty_state cs ≡ true
  pub grows : Grows contents more
  pub pushed : ds ≡ cs ++ c ∷ []
  pub can : can_record_change more c (state_after_changes contents empty_state cs) ≡ true

module _ (c : Change) (cs ds : List Change) (contents more : List (List ℕ)) (p : IsPushed c cs ds contents more) where
  pub pushed_state : state_after_changes more empty_state ds ≡ step more c (state_after_changes contents empty_state cs)
  pushed_state =
      ap (state_after_changes more empty_state) p.pushed
      ∙ state_after_changes-push more empty_state cs c
      ∙ ap (step more c) (state_more contents more p.grows empty_state cs p.recorded)

  pub pushed_earlier : earlier_states more empty_state [] ds ≡ state_after_changes contents empty_state cs ∷ earlier_states contents empty_state [] cs
  pushed_earlier =
      ap (earlier_states more empty_state []) p.pushed
      ∙ earlier_states-push more empty_state [] cs c
      ∙ (λ i. state_more contents more p.grows empty_state cs p.recorded i ∷ earlier_more contents more p.grows empty_state [] cs p.recorded i)

  pub pushed_history : state_after_changes more empty_state ds ∷ earlier_states more empty_state [] ds ≡ step more c (state_after_changes contents empty_state cs) ∷ (state_after_changes contents empty_state cs ∷ earlier_states contents empty_state [] cs)
  pushed_history = λ i. pushed_state i ∷ pushed_earlier i

  pub pushed_record : can_record_changes more empty_state ds ≡ true
  pushed_record =
      ap (can_record_changes more empty_state) p.pushed
      ∙ record_push more empty_state cs c (record_more contents more p.grows empty_state cs p.recorded) (ap (can_record_change more c) (state_more contents more p.grows empty_state cs p.recorded) ∙ p.can)
