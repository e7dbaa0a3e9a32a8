-- The maps of names that a record gives.
use Rattle.std.proofs.Common.{◌≡◌, ◌⊎◌, inl, inr, ⊎_elim, ℕ, zero, suc, ◌+◌, ◌-◌, ◌<◌, ◌≤◌, Bool, true, false, cond, List, [], ◌∷◌, ◌++◌, length, get_or, take, drop, Option, None, Some, is_some, refl, sym, ap, subst, ◌∙◌, arith, take-append-drop}
use Rattle.std.proofs.lemmas.List.{drop_more, take_more, take_all}
use Rattle.std.specs.List.{AllWithin}
use Rattle.std.specs.Str.{bytes_eq}
use Rattle.base_core.specs.Files.{NameMap, no_names, put_name, drop_name}
use Rattle.base_core.specs.Undone.{with_change_replayed}
use Rattle.base_core.specs.Tree.{TreeState, with_file_moved, with_name_removed, after_rename, after_remove}
use Rattle.tree_memory.specs.Changes.{empty_state, step, state_after_changes, can_record_change, can_record_changes}
use Rattle.tree_memory.specs.Images.{maps_newest_first, syncs_names, map_count_after_change, map_without, HasNames}
use Rattle.tree_memory.specs.Table.{lookup}
use Rattle.tree_memory.proofs.AtName.{is_name}
use Rattle.tree_memory.proofs.Undoing.{without_none, without_step}
use Rattle.tree_memory.proofs.Growing.{state_after_changes-push, record_front}
use Rattle.tree_memory.specs.declared.store.Change.{Change}
use Rattle.tree_memory.specs.declared.store.Change.TheVariants.{Put, Create, Append, Sync, Rename, Remove, SyncNames, Stay}
use Rattle.tree_memory.specs.declared.table.NameAndFile.{NameAndFile}

-- ---- a front of a record

split_at : (cs : List Change) (i : ℕ) (c : Change) → i < length cs → c ≡ get_or cs i c → cs ≡ take i cs ++ (c ∷ drop (i + 1) cs)
split_at cs i c within is = sym (take-append-drop i cs) ∙ ap (λ (l : List Change). take i cs ++ l) (drop_more cs i c within ∙ ap (λ (x : Change). x ∷ drop (i + 1) cs) (sym is))

-- the change behind a front may be recorded
pub can_at : (contents : List (List ℕ)) (cs : List Change) (i : ℕ) (c : Change) → i < length cs → c ≡ get_or cs i c → can_record_changes contents empty_state cs ≡ true → can_record_change contents c (state_after_changes contents empty_state (take i cs)) ≡ true
can_at contents cs i c within is recorded = record_front contents empty_state (take i cs) (drop (i + 1) cs) c (subst (λ (l : List Change). can_record_changes contents empty_state l ≡ true) (split_at cs i c within is) recorded)

-- and leads on
pub state_at : (contents : List (List ℕ)) (cs : List Change) (i : ℕ) (c : Change) → i < length cs → c ≡ get_or cs i c → state_after_changes contents empty_state (take (i + 1) cs) ≡ step contents c (state_after_changes contents empty_state (take i cs))
state_at contents cs i c within is =
    ap (state_after_changes contents empty_state) (take_more cs i c within ∙ ap (λ (x : Change). take i cs ++ x ∷ []) (sym is))
    ∙ state_after_changes-push contents empty_state (take i cs) c

-- ---- one change on

some_at : (o : Option ℕ) → is_some o ≡ true → (n : ℕ) × (o ≡ Some n)
some_at None is = absurd (cc (is))
some_at (Some n) is = (n, refl)

-- a change that does not sync the names keeps the maps, or makes one more
pub older_after : (contents : List (List ℕ)) (c : Change) (v : TreeState) → can_record_change contents c v ≡ true → syncs_names c ≡ false → (maps_newest_first (step contents c v) ≡ maps_newest_first v) ⊎ ((step contents c v).older ≡ maps_newest_first v)
older_after contents (Put name file len) v can off = absurd (cc (off))
older_after contents (Create name) v can off = inr refl
older_after contents (Append file len) v can off = inl refl
older_after contents (Sync file) v can off = inl refl
older_after contents (Rename from to) v can off = let at = some_at (v.names from) can in inr (ap (λ (o : Option ℕ). (with_file_moved from to v o).older) at.1)
older_after contents (Remove name) v can off = let at = some_at (v.names name) can in inr (ap (λ (o : Option ℕ). (with_name_removed name v o).older) at.1)
older_after contents SyncNames v can off = absurd (cc (off))
older_after contents Stay v can off = inl refl

-- and one that syncs them leaves no older one
pub older_synced : (contents : List (List ℕ)) (c : Change) (v : TreeState) → syncs_names c ≡ true → (step contents c v).older ≡ []
older_synced contents (Put name file len) v on = refl
older_synced contents (Create name) v on = absurd (cc (on))
older_synced contents (Append file len) v on = absurd (cc (on))
older_synced contents (Sync file) v on = absurd (cc (on))
older_synced contents (Rename from to) v on = absurd (cc (on))
older_synced contents (Remove name) v on = absurd (cc (on))
older_synced contents SyncNames v on = refl
older_synced contents Stay v on = absurd (cc (on))

pub older_at : (contents : List (List ℕ)) (cs : List Change) (i n : ℕ) (c : Change) → i + 1 ≡ n → i < length cs → c ≡ get_or cs i c → syncs_names c ≡ true → (state_after_changes contents empty_state (take n cs)).older ≡ []
older_at contents cs i n c next within is on =
    ap (λ (k : ℕ). (state_after_changes contents empty_state (take k cs)).older) (sym next)
    ∙ ap (λ (v : TreeState). v.older) (state_at contents cs i c within is)
    ∙ older_synced contents c (state_after_changes contents empty_state (take i cs)) on

-- a change from the place on from which none syncs the names
pub not_synced : (cs ds : List Change) (start i : ℕ) (c : Change) → ds ≡ cs → start ≤ i → i < length cs → c ≡ get_or cs i c → AllWithin (λ x. syncs_names x ≡ false) ds start (length ds) → syncs_names c ≡ false
not_synced cs ds start i c same from within is each =
    let far : AllWithin (λ x. syncs_names x ≡ false) cs start (length cs) = subst (λ (l : List Change). AllWithin (λ x. syncs_names x ≡ false) l start (length l)) same each in
    ap syncs_names is ∙ far i c from within

pub maps_counted : (contents : List (List ℕ)) (c : Change) (v : TreeState) → can_record_change contents c v ≡ true → length (maps_newest_first (step contents c v)) ≡ map_count_after_change c (length (maps_newest_first v))
maps_counted contents (Put name file len) v can = refl
maps_counted contents (Create name) v can = omega arith
maps_counted contents (Append file len) v can = refl
maps_counted contents (Sync file) v can = refl
maps_counted contents (Rename from to) v can = let at = some_at (v.names from) can in omega (arith, ap (λ (o : Option ℕ). length (with_file_moved from to v o).older) at.1)
maps_counted contents (Remove name) v can = let at = some_at (v.names name) can in omega (arith, ap (λ (o : Option ℕ). length (with_name_removed name v o).older) at.1)
maps_counted contents SyncNames v can = refl
maps_counted contents Stay v can = refl

maps_few : (c : Change) (maps i : ℕ) → maps ≤ i + 1 → map_count_after_change c maps ≤ i + 1 + 1
maps_few (Put name file len) maps i few = omega arith
maps_few (Create name) maps i few = omega (arith, few)
maps_few (Append file len) maps i few = omega (arith, few)
maps_few (Sync file) maps i few = omega (arith, few)
maps_few (Rename from to) maps i few = omega (arith, few)
maps_few (Remove name) maps i few = omega (arith, few)
maps_few SyncNames maps i few = omega arith
maps_few Stay maps i few = omega (arith, few)

-- how many maps a front of a record gives
pub record IsMapCount (contents : List (List ℕ)) (cs : List Change) (i maps : ℕ) : Type 0 where
  pub count : maps ≡ length (maps_newest_first (state_after_changes contents empty_state (take i cs)))
  pub few : maps ≤ i + 1

pub count_more : (contents : List (List ℕ)) (cs : List Change) (i maps more : ℕ) (c : Change) → i < length cs → c ≡ get_or cs i c → can_record_changes contents empty_state cs ≡ true → IsMapCount contents cs i maps → more ≡ map_count_after_change c maps
    → IsMapCount contents cs (i + 1) more
count_more contents cs i maps more c within is recorded so_far counted = record {
  count = counted ∙ ap (map_count_after_change c) so_far.count ∙ sym (maps_counted contents c (state_after_changes contents empty_state (take i cs)) (can_at contents cs i c within is recorded))
      ∙ sym (ap (λ (v : TreeState). length (maps_newest_first v)) (state_at contents cs i c within is));
  few = subst (λ (n : ℕ). n ≤ i + 1 + 1) (sym counted) (maps_few c maps i so_far.few);
}

-- ---- the names behind a front

pub names_none : (contents : List (List ℕ)) (es : List NameAndFile) → es ≡ [] → HasNames (state_after_changes contents empty_state []) es 0
names_none contents es none = record { names = λ q. sym (ap (λ (l : List NameAndFile). lookup l q) none); made = refl }

pub names_more : (contents : List (List ℕ)) (cs : List Change) (i : ℕ) (c : Change) (es : List NameAndFile) (made : ℕ) → i < length cs → c ≡ get_or cs i c → HasNames (step contents c (state_after_changes contents empty_state (take i cs))) es made → HasNames (state_after_changes contents empty_state (take (i + 1) cs)) es made
names_more contents cs i c es made within is here = subst (λ (v : TreeState). HasNames v es made) (sym (state_at contents cs i c within is)) here

-- one name more
pub named : (name : List ℕ) (v w : TreeState) (es fs : List NameAndFile) (made : ℕ) → HasNames v es made → w.made ≡ v.made + 1 → ((q : List ℕ) → w.names q ≡ put_name v.names name v.made q) → ((q : List ℕ) → lookup fs q ≡ put_name (lookup es) name made q) → HasNames w fs (made + 1)
named name v w es fs made was more names set = record {
  names = λ q. names q ∙ ap (λ (n : ℕ). cond (bytes_eq q name) (Some n) (v.names q)) was.made ∙ ap (cond (bytes_eq q name) (Some made)) (was.names q) ∙ sym (set q);
  made = more ∙ ap (λ (n : ℕ). n + 1) was.made;
}

pub names_moved : (from to : List ℕ) (v : TreeState) (es es₁ fs : List NameAndFile) (made n : ℕ) → HasNames v es made → lookup es from ≡ Some n → ((q : List ℕ) → lookup es₁ q ≡ drop_name (lookup es) from q) → ((q : List ℕ) → lookup fs q ≡ put_name (lookup es₁) to n q)
    → HasNames (after_rename from to v) fs made
names_moved from to v es es₁ fs made n was there gone set =
    subst (λ (o : Option ℕ). HasNames (with_file_moved from to v o) fs made) (sym (was.names from ∙ there)) (record {
      names = λ q. ap (cond (bytes_eq q to) (Some n)) (ap (cond (bytes_eq q from) None) (was.names q) ∙ sym (gone q)) ∙ sym (set q);
      made = was.made;
    })

pub names_unmoved : (from to : List ℕ) (v : TreeState) (es : List NameAndFile) (made : ℕ) → HasNames v es made → lookup es from ≡ None → HasNames (after_rename from to v) es made
names_unmoved from to v es made was none = subst (λ (o : Option ℕ). HasNames (with_file_moved from to v o) es made) (sym (was.names from ∙ none)) was

pub names_removed : (name : List ℕ) (v : TreeState) (es fs : List NameAndFile) (made : ℕ) → HasNames v es made → ((q : List ℕ) → lookup fs q ≡ drop_name (lookup es) name q) → HasNames (after_remove name v) fs made
names_removed name v es fs made was gone = by (v.names name) refl
  where
    absent : (b : Bool) (r : Option ℕ) → (b ≡ true → r ≡ None) → r ≡ cond b None r
    absent true r is = is refl
    absent false r is = refl

    by : (o : Option ℕ) → v.names name ≡ o → HasNames (with_name_removed name v o) fs made
    by None none = record { names = λ q. was.names q ∙ absent (bytes_eq q name) (lookup es q) (λ at. ap (lookup es) (is_name q name at) ∙ sym (was.names name) ∙ none) ∙ sym (gone q); made = was.made }
    by (Some n) some = record { names = λ q. ap (cond (bytes_eq q name) None) (was.names q) ∙ sym (gone q); made = was.made }

-- ---- the picked names behind a front

-- a front of a record has these names, these picked ones, this many files and this many maps
pub record IsPicking (contents : List (List ℕ)) (cs : List Change) (undone : ℕ → Bool) (i : ℕ) (es picked : List NameAndFile) (made maps : ℕ) : Type 0 where
  pub names : HasNames (state_after_changes contents empty_state (take i cs)) es made
  pub few : made ≤ i
  pub count : IsMapCount contents cs i maps
  pub kept : (q : List ℕ) → lookup picked q ≡ map_without undone (state_after_changes contents empty_state (take i cs)).names (state_after_changes contents empty_state (take i cs)).older q

module _ (contents : List (List ℕ)) (cs : List Change) (undone : ℕ → Bool) (i : ℕ) where
  abbrev front : TreeState
  front = state_after_changes contents empty_state (take i cs)

  pub picking_first : (es picked : List NameAndFile) (made made₁ : ℕ) → front.older ≡ [] → HasNames front es made → HasNames front picked made₁ → made ≤ i → IsPicking contents cs undone i es picked made 1
  picking_first es picked made made₁ none names same few = record {
    names = names;
    few = few;
    count = record { count = sym (ap (λ (maps : List NameMap). suc (length maps)) none); few = omega arith };
    kept = λ q. sym (same.names q) ∙ sym (without_none undone front none q);
  }

  module _ (c : Change) (within : i < length cs) (is : c ≡ get_or cs i c) (recorded : can_record_changes contents empty_state cs ≡ true) (off : syncs_names c ≡ false)
      (es picked : List NameAndFile) (made maps : ℕ) (so_far : IsPicking contents cs undone i es picked made maps) where
    can : can_record_change contents c front ≡ true
    can = can_at contents cs i c within is recorded

    pub picking_more : (fs after : List NameAndFile) (more number : ℕ) → number ≡ map_count_after_change c maps → more ≤ made + 1 → HasNames (step contents c front) fs more
        → ((q : List ℕ) → lookup after q ≡ cond (undone (maps - 1)) (lookup picked q) (with_change_replayed front.names (step contents c front).names (lookup picked) q))
        → IsPicking contents cs undone (i + 1) fs after more number
    picking_more fs after more number counted up names now =
        let count : maps - 1 ≡ length front.older = omega (arith, so_far.count.count) in record {
          names = names_more contents cs i c fs more within is names;
          few = omega (arith, up, so_far.few);
          count = count_more contents cs i maps number c within is recorded so_far.count counted;
          kept = λ q.
              without_step undone front (step contents c front) (lookup picked) (lookup after) so_far.kept (λ r. now r ∙ ap (λ (k : ℕ). cond (undone k) (lookup picked r) (with_change_replayed front.names (step contents c front).names (lookup picked) r)) count) (older_after contents c front can off) q
              ∙ ap (λ (w : TreeState). map_without undone w.names w.older q) (sym (state_at contents cs i c within is));
        }
