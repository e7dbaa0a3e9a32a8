-- What a store keeps stays in step with its record: changes of one file, and of names.
use Rattle.std.proofs.Common.{◌≡◌, ◌≢◌, inl, ⊎_elim, ℕ, ◌<◌, ◌^◌, Bool, true, false, cond, List, [], ◌∷◌, ◌++◌, length, map, get_or, set, take, Option, None, Some, IsSome, is_some, refl, sym, ap, subst, ◌∙◌, arith}
use Rattle.std.specs.List.{All}
use Rattle.std.specs.Str.{bytes_eq}
use Rattle.std.proofs.lemmas.List.Elements.{All-append}
use Rattle.std.proofs.Math.Seq.{take-length, map-set_same}
use Rattle.std.proofs.lemmas.List.{map-set, set-get_or, get_or-set_same, length-set}
use Rattle.base_core.specs.Files.{AreFileBytes, put_name, drop_name, move_name}
use Rattle.base_core.specs.Name.{IsName}
use Rattle.base_core.specs.Tree.{TreeState, File, CanRename, HasName, set_file, with_file_changed, after_append, after_sync, with_file_moved, after_rename, with_name_removed, after_remove, after_sync_names}
use Rattle.base_core.proofs.AtName.{name_cases, off_name}
use Rattle.tree_memory.specs.Table.{lookup}
use Rattle.tree_memory.specs.Changes.{empty_state, step, state_after_changes, earlier_states, contents_of, can_record_change, can_record_changes}
use Rattle.tree_memory.specs.Kept.{HoldsState, IsSoundState, IsConsistentStore}
use Rattle.tree_memory.proofs.AtName.{drop_name-off, put-at, put-off}
use Rattle.tree_memory.proofs.Folders.{folder_like_fewer, folder_like_number, fewer_dropped}
use Rattle.tree_memory.proofs.Growing.{front_is, Grows, grows_not, grows_set, IsPushed}
use Rattle.tree_memory.proofs.Keeping.{length-contents, kept_set, named_drop, named_put, sound_changed, sound_one, sound_with, store_pushed, store_sound, history_pushed, leads_within}
use Rattle.tree_memory.specs.declared.store.Change.{Change}
use Rattle.tree_memory.specs.declared.store.Change.TheVariants.{Append, Sync, Rename, Remove, SyncNames, Stay}
use Rattle.tree_memory.specs.declared.store.Stored.{Stored}
use Rattle.tree_memory.specs.declared.table.NameAndFile.{NameAndFile}

-- a store's newest state, and the states that it shows
abbrev pub newest_of : List Change → List Stored → TreeState
newest_of cs files = state_after_changes (contents_of files) empty_state cs

abbrev pub states_of : List Change → List Stored → List TreeState
states_of cs files = newest_of cs files ∷ earlier_states (contents_of files) empty_state [] cs

-- ---- another file under a number

-- a file is now another one
pub record IsOther (name : List ℕ) (n : ℕ) (es : List NameAndFile) (files more : List Stored) (s : Stored) : Type 0 where
  pub named : lookup es name ≡ Some n
  pub stored : more ≡ set files n s

module _ (name : List ℕ) (n : ℕ) (cs ds : List Change) (es : List NameAndFile) (files more : List Stored) (s : Stored) (store : IsConsistentStore cs es files) (m : IsOther name n es files more s) where
  abbrev was : TreeState
  was = newest_of cs files

  within : n < length files
  within = leads_within cs es files name n store m.named

  leads : was.names name ≡ Some n
  leads = store.kept.names name ∙ m.named

  set_contents : contents_of more ≡ set (contents_of files) n s.bytes.items
  set_contents = ap contents_of m.stored ∙ map-set (λ (f : Stored). f.bytes.items) files n s

  changed_kept : (change : File → File) → (change (was.files n)).bytes ≡ s.bytes.items → (change (was.files n)).synced ≡ s.synced → HoldsState (with_file_changed change was (was.names name)) es more
  changed_kept change bytes synced =
      subst (λ (l : List Stored). HoldsState (with_file_changed change was (was.names name)) es l) (sym m.stored)
      (subst (λ (o : Option ℕ). HoldsState (with_file_changed change was o) es (set files n s)) (sym leads) (kept_set was es files n change s store.kept within bytes synced))

  was_sound : IsSoundState was
  was_sound = store_sound cs es files store

  changed_sound : (change : File → File) → AreFileBytes (change (was.files n)).bytes → IsSoundState (with_file_changed change was (was.names name))
  changed_sound change file = subst (λ (o : Option ℕ). IsSoundState (with_file_changed change was o)) (sym leads) (sound_changed change was n was_sound file)

  -- a piece at its end
  module _ (piece : List ℕ) (grown : s.bytes.items ≡ get_or (contents_of files) n [] ++ piece) where
    append_pushed : ds ≡ cs ++ Append n (length s.bytes.items) ∷ [] → IsPushed (Append n (length s.bytes.items)) cs ds (contents_of files) (contents_of more)
    append_pushed is = record {
      recorded = store.recorded;
      grows = subst (Grows (contents_of files)) (sym (set_contents ∙ ap (set (contents_of files) n) grown)) (grows_set (contents_of files) n piece (omega (arith, within, length-contents files)));
      pushed = is;
      can = front_is (contents_of more) n (length s.bytes.items) (record {
        within = omega (arith, within, length-contents files, ap length set_contents, length-set (contents_of files) n s.bytes.items);
        fits = omega (arith, ap length stands_there);
      });
    }
      where
        stands_there : get_or (contents_of more) n [] ≡ s.bytes.items
        stands_there = ap (λ (l : List (List ℕ)). get_or l n []) set_contents ∙ get_or-set_same (contents_of files) n s.bytes.items [] (omega (arith, within, length-contents files))

    append_step : step (contents_of more) (Append n (length s.bytes.items)) was ≡ after_append name piece was
    append_step =
        ap (λ (l : List ℕ). record was { files = set_file was.files n (record { bytes = l; synced = false }) })
        (ap (take (length s.bytes.items)) (ap (λ (l : List (List ℕ)). get_or l n []) set_contents ∙ get_or-set_same (contents_of files) n s.bytes.items [] (omega (arith, within, length-contents files)))
        ∙ take-length s.bytes.items ∙ grown ∙ ap (λ (l : List ℕ). l ++ piece) (sym (store.kept.bytes n)))
        ∙ sym (ap (with_file_changed (λ (f : File). record { bytes = f.bytes ++ piece; synced = false }) was) leads)

    grown_read : (was.files n).bytes ++ piece ≡ s.bytes.items
    grown_read = ap (λ (l : List ℕ). l ++ piece) (store.kept.bytes n) ∙ sym grown

    grown_file : All (λ b. b < 256) piece → length s.bytes.items < 2 ^ 64 → AreFileBytes ((was.files n).bytes ++ piece)
    grown_file each few = record {
      each = All-append (λ b. b < 256) (was.files n).bytes piece (was_sound.bytes n).each each;
      few = subst (λ (l : List ℕ). length l < 2 ^ 64) (sym grown_read) few;
    }

    pub store_append : ds ≡ cs ++ Append n (length s.bytes.items) ∷ [] → s.synced ≡ false → All (λ b. b < 256) piece → length s.bytes.items < 2 ^ 64 → IsConsistentStore ds es more
    store_append is unsynced each few =
        store_pushed (Append n (length s.bytes.items)) cs ds es (contents_of files) more (after_append name piece was) (append_pushed is) append_step
        (changed_kept (λ (f : File). record { bytes = f.bytes ++ piece; synced = false }) (ap (λ (l : List ℕ). l ++ piece) (store.kept.bytes n) ∙ sym grown) (sym unsynced))
        (changed_sound (λ (f : File). record { bytes = f.bytes ++ piece; synced = false }) (grown_file each few)) store.sound

    pub history_append : ds ≡ cs ++ Append n (length s.bytes.items) ∷ [] → states_of ds more ≡ after_append name piece was ∷ states_of cs files
    history_append is = history_pushed (Append n (length s.bytes.items)) cs ds (contents_of files) (contents_of more) (after_append name piece was) (append_pushed is) append_step

  -- its bytes are as they were
  module _ (same : s.bytes.items ≡ get_or (contents_of files) n []) where
    same_contents : contents_of more ≡ contents_of files
    same_contents = set_contents ∙ ap (set (contents_of files) n) same ∙ set-get_or (contents_of files) n []

    sync_pushed : ds ≡ cs ++ Sync n ∷ [] → IsPushed (Sync n) cs ds (contents_of files) (contents_of more)
    sync_pushed is = record { recorded = store.recorded; grows = subst (Grows (contents_of files)) (sym same_contents) (grows_not (contents_of files)); pushed = is; can = refl }

    sync_step : step (contents_of more) (Sync n) was ≡ after_sync name was
    sync_step = sym (ap (with_file_changed (λ (f : File). record { bytes = f.bytes; synced = true }) was) leads)

    pub store_sync : ds ≡ cs ++ Sync n ∷ [] → s.synced ≡ true → IsConsistentStore ds es more
    store_sync is synced =
        store_pushed (Sync n) cs ds es (contents_of files) more (after_sync name was) (sync_pushed is) sync_step
        (changed_kept (λ (f : File). record { bytes = f.bytes; synced = true }) (store.kept.bytes n ∙ sym same) (sym synced))
        (changed_sound (λ (f : File). record { bytes = f.bytes; synced = true }) (was_sound.bytes n)) store.sound

    pub history_sync : ds ≡ cs ++ Sync n ∷ [] → states_of ds more ≡ after_sync name was ∷ states_of cs files
    history_sync is = history_pushed (Sync n) cs ds (contents_of files) (contents_of more) (after_sync name was) (sync_pushed is) sync_step

-- a file that is as it was
pub store_same : (n : ℕ) (cs : List Change) (es : List NameAndFile) (files more : List Stored) (s d : Stored) → IsConsistentStore cs es files → more ≡ set files n s → n < length files → s.bytes.items ≡ d.bytes.items → s.synced ≡ d.synced → d ≡ get_or files n d → IsConsistentStore cs es more
store_same n cs es files more s d store is inside bytes synced at =
    let same_bytes : contents_of more ≡ contents_of files = ap contents_of is ∙ map-set_same (λ (f : Stored). f.bytes.items) files n s d (bytes ∙ ap (λ (f : Stored). f.bytes.items) at) in
    let same_flags = ap (λ (l : List Stored). map (λ (f : Stored). f.synced) l) is ∙ map-set_same (λ (f : Stored). f.synced) files n s d (synced ∙ ap (λ (f : Stored). f.synced) at) in record {
      recorded = ap (λ (l : List (List ℕ)). can_record_changes l empty_state cs) same_bytes ∙ store.recorded;
      kept = subst (λ (v : TreeState). HoldsState v es more) (sym (ap (λ (l : List (List ℕ)). state_after_changes l empty_state cs) same_bytes)) (record {
        names = store.kept.names;
        made = store.kept.made ∙ sym (ap length is ∙ length-set files n s);
        bytes = λ k. store.kept.bytes k ∙ sym (ap (λ (l : List (List ℕ)). get_or l k []) same_bytes);
        synced = λ k. store.kept.synced k ∙ sym (ap (λ (l : List Bool). get_or l k false) same_flags);
      });
      sound = subst (All IsSoundState) (sym (ap (λ (l : List (List ℕ)). state_after_changes l empty_state cs ∷ earlier_states l empty_state [] cs) same_bytes)) store.sound;
    }

pub states_same : (n : ℕ) (cs : List Change) (files more : List Stored) (s d : Stored) → more ≡ set files n s → s.bytes.items ≡ d.bytes.items → d ≡ get_or files n d → states_of cs more ≡ states_of cs files
states_same n cs files more s d is bytes at =
    ap (λ (l : List (List ℕ)). state_after_changes l empty_state cs ∷ earlier_states l empty_state [] cs) (ap contents_of is ∙ map-set_same (λ (f : Stored). f.bytes.items) files n s d (bytes ∙ ap (λ (f : Stored). f.bytes.items) at))

-- ---- names

module _ (cs ds : List Change) (es fs : List NameAndFile) (files : List Stored) (store : IsConsistentStore cs es files) where
  abbrev now : TreeState
  now = newest_of cs files

  now_sound : IsSoundState now
  now_sound = store_sound cs es files store

  pushed_names : (c : Change) → ds ≡ cs ++ c ∷ [] → can_record_change (contents_of files) c now ≡ true → IsPushed c cs ds (contents_of files) (contents_of files)
  pushed_names c is can = record { recorded = store.recorded; grows = grows_not (contents_of files); pushed = is; can = can }

  -- a name more in place of another
  module _ (from to : List ℕ) (n : ℕ) (there : lookup es from ≡ Some n) where
    rename_can : can_record_change (contents_of files) (Rename from to) now ≡ true
    rename_can = ap is_some (store.kept.names from ∙ there)

    moved : from ≢ to → (es₁ : List NameAndFile) → ((q : List ℕ) → lookup es₁ q ≡ put_name (lookup es) to n q) → ((q : List ℕ) → lookup fs q ≡ drop_name (lookup es₁) from q) → (q : List ℕ) → move_name now.names from to n q ≡ lookup fs q
    moved apart es₁ first second q =
        ⊎_elim (λ at_to. put-at (drop_name now.names from) to n q at_to
        ∙ sym (second q ∙ drop_name-off (lookup es₁) from q (λ at_from. apart (sym at_from ∙ at_to)) ∙ first q ∙ put-at (lookup es) to n q at_to))
        (λ off_to. let ne = off_name q to off_to in
        put-off (drop_name now.names from) to n q ne
        ∙ ap (cond (bytes_eq q from) None) (store.kept.names q ∙ sym (first q ∙ put-off (lookup es) to n q ne))
        ∙ sym (second q))
        (name_cases q to)

    renamed_kept : ((q : List ℕ) → move_name now.names from to n q ≡ lookup fs q) → HoldsState (after_rename from to now) fs files
    renamed_kept names =
        subst (λ (o : Option ℕ). HoldsState (with_file_moved from to now o) fs files) (sym (store.kept.names from ∙ there)) (record { names = names; made = store.kept.made; bytes = store.kept.bytes; synced = store.kept.synced })

    renamed_sound : IsName to → CanRename from to now → IsSoundState (after_rename from to now)
    renamed_sound named can =
        subst (λ (o : Option ℕ). IsSoundState (with_file_moved from to now o)) (sym (store.kept.names from ∙ there)) (sound_with now (move_name now.names from to n) now_sound (folder_like_number (drop_name now.names from) to 0 n can.folders)
        (named_put (drop_name now.names from) to n (named_drop now.names from (now_sound.named now.names (inl refl))) named))

    pub store_rename : ds ≡ cs ++ Rename from to ∷ [] → IsName to → CanRename from to now → (es₁ : List NameAndFile) → ((q : List ℕ) → lookup es₁ q ≡ put_name (lookup es) to n q) → ((q : List ℕ) → lookup fs q ≡ drop_name (lookup es₁) from q) → IsConsistentStore ds fs files
    store_rename is named can es₁ first second =
        store_pushed (Rename from to) cs ds fs (contents_of files) files (after_rename from to now) (pushed_names (Rename from to) is rename_can) refl (renamed_kept (moved can.apart es₁ first second)) (renamed_sound named can) store.sound

    pub history_rename : ds ≡ cs ++ Rename from to ∷ [] → states_of ds files ≡ after_rename from to now ∷ states_of cs files
    history_rename is = history_pushed (Rename from to) cs ds (contents_of files) (contents_of files) (after_rename from to now) (pushed_names (Rename from to) is rename_can) refl

  -- a name less
  module _ (name : List ℕ) where
    removed_kept : (o : Option ℕ) → IsSome o → ((q : List ℕ) → lookup fs q ≡ drop_name (lookup es) name q) → HoldsState (with_name_removed name now o) fs files
    removed_kept None some gone = absurd (cc (some))
    removed_kept (Some n) some gone = record { names = λ q. ap (cond (bytes_eq q name) None) (store.kept.names q) ∙ sym (gone q); made = store.kept.made; bytes = store.kept.bytes; synced = store.kept.synced }

    removed_sound : (o : Option ℕ) → IsSoundState (with_name_removed name now o)
    removed_sound None = now_sound
    removed_sound (Some n) = sound_with now (drop_name now.names name) now_sound (folder_like_fewer now.names (drop_name now.names name) (fewer_dropped now.names name) (now_sound.folders now.names (inl refl)))
        (named_drop now.names name (now_sound.named now.names (inl refl)))

    pub store_remove : ds ≡ cs ++ Remove name ∷ [] → HasName name now → ((q : List ℕ) → lookup fs q ≡ drop_name (lookup es) name q) → IsConsistentStore ds fs files
    store_remove is has gone =
        store_pushed (Remove name) cs ds fs (contents_of files) files (after_remove name now) (pushed_names (Remove name) is has) refl (removed_kept (now.names name) has gone) (removed_sound (now.names name)) store.sound

    pub history_remove : ds ≡ cs ++ Remove name ∷ [] → HasName name now → states_of ds files ≡ after_remove name now ∷ states_of cs files
    history_remove is has = history_pushed (Remove name) cs ds (contents_of files) (contents_of files) (after_remove name now) (pushed_names (Remove name) is has) refl

    -- or none, as it was absent
    stayed : (o : Option ℕ) → (IsSome o → ⊥) → now ≡ with_name_removed name now o
    stayed None absent = refl
    stayed (Some n) absent = absurd (absent refl)

    pub history_stay : ds ≡ cs ++ Stay ∷ [] → (HasName name now → ⊥) → states_of ds files ≡ after_remove name now ∷ states_of cs files
    history_stay is absent = history_pushed Stay cs ds (contents_of files) (contents_of files) (after_remove name now) (pushed_names Stay is refl) (stayed (now.names name) absent)

  pub store_stay : ds ≡ cs ++ Stay ∷ [] → IsConsistentStore ds es files
  store_stay is = store_pushed Stay cs ds es (contents_of files) files now (pushed_names Stay is refl) refl store.kept now_sound store.sound

  pub store_sync_names : ds ≡ cs ++ SyncNames ∷ [] → IsConsistentStore ds es files
  store_sync_names is =
      store_pushed SyncNames cs ds es (contents_of files) files (after_sync_names now) (pushed_names SyncNames is refl) refl (record { names = store.kept.names; made = store.kept.made; bytes = store.kept.bytes; synced = store.kept.synced })
      (sound_one (after_sync_names now) refl (now_sound.folders now.names (inl refl)) (now_sound.named now.names (inl refl)) now_sound.bytes) store.sound

  pub history_sync_names : ds ≡ cs ++ SyncNames ∷ [] → states_of ds files ≡ after_sync_names now ∷ states_of cs files
  history_sync_names is = history_pushed SyncNames cs ds (contents_of files) (contents_of files) (after_sync_names now) (pushed_names SyncNames is refl) refl
