-- What a store keeps stays in step with its record.
use Rattle.std.proofs.Common.{◌≡◌, ◌≢◌, inl, inr, ⊎_elim, ℕ, ◌+◌, ◌<◌, Bool, true, false, cond, List, [], ◌∷◌, ◌++◌, length, get_or, set, take, Option, None, Some, IsSome, refl, sym, ap, subst, ◌∙◌, arith, lit<, length-append, ◌==◌}
use Rattle.std.specs.List.{All, AllPairs, Contains}
use Rattle.std.specs.Ordering.{nat_cmp}
use Rattle.std.specs.Cmp.Lexicographic.{slice_cmp}
use Rattle.std.specs.Str.{bytes_eq}
use Rattle.std.specs.declared.cmp.Ordering.TheVariants.{Less}
use Rattle.std.proofs.Math.ListN.{get_or-append}
use Rattle.std.proofs.Math.Seq.{get_or-append_seam, take-length}
use Rattle.std.proofs.lemmas.List.{get_or-map, get_or_past, length-map, length-set, map-set, get_or-set_same, get_or-set_other}
use Rattle.std.proofs.lemmas.List.Elements.{All-nil, All-cons, All-head}
use Rattle.std.proofs.lemmas.Bool.{cases_eq, cases_lt, eq-eqb, ne_eqb}
use Rattle.base_core.specs.Files.{NameMap, AreNames, AreFileBytes, HasNoFileAsFolder, drop_name, put_name}
use Rattle.base_core.specs.Name.{IsName}
use Rattle.base_core.specs.Listed.{IsSortedListOfAllNamesInMap}
use Rattle.base_core.specs.Tree.{TreeState, File, IsCurrentOrOlderMap, CanCreate, bytes_of_file_number, files_of, set_file, with_file_changed, with_newer_name_map, after_create}
use Rattle.base_core.proofs.AtName.{name_cases, off_name}
use Rattle.tree_memory.specs.Table.{IsSortedNameTable, lookup, names_of}
use Rattle.tree_memory.specs.Changes.{empty_state, after_put, step, state_after_changes, earlier_states, contents_of, synced_flags}
use Rattle.tree_memory.specs.Kept.{HoldsState, IsSoundState, IsConsistentStore, CanPut}
use Rattle.tree_memory.specs.WellFormedLaw.{AreMapsFiniteOfMadeFiles, bounded_state}
use Rattle.tree_memory.proofs.AtName.{put-at, put-off}
use Rattle.tree_memory.proofs.Growing.{front_is, Grows, grows_push, IsPushed, pushed_state, pushed_record, pushed_history}
use Rattle.tree_memory.proofs.Placed.{located, looked_up}
use Rattle.tree_memory.specs.declared.store.Change.{Change}
use Rattle.tree_memory.specs.declared.store.Change.TheVariants.{Put, Create}
use Rattle.tree_memory.specs.declared.store.Stored.{Stored}
use Rattle.tree_memory.specs.declared.table.NameAndFile.{NameAndFile}

-- ---- the bytes and the flags, one file more or another one

contents-push : (files : List Stored) (file : Stored) → contents_of (files ++ file ∷ []) ≡ contents_of files ++ file.bytes.items ∷ []
contents-push [] file = refl
contents-push (f ∷ files) file = ap (λ (l : List (List ℕ)). f.bytes.items ∷ l) (contents-push files file)

flags-push : (files : List Stored) (file : Stored) → synced_flags (files ++ file ∷ []) ≡ synced_flags files ++ file.synced ∷ []
flags-push [] file = refl
flags-push (f ∷ files) file = ap (λ (l : List Bool). f.synced ∷ l) (flags-push files file)

pub length-contents : (files : List Stored) → length (contents_of files) ≡ length files
length-contents files = length-map files (λ (f : Stored). f.bytes.items)

length-flags : (files : List Stored) → length (synced_flags files) ≡ length files
length-flags files = length-map files (λ (f : Stored). f.synced)

-- a part of the files, one file more
part_push : {A : Type 0} (part : File → A) (files : ℕ → File) (n : ℕ) (f : File) (xs : List A) (x d : A) → n ≡ length xs → part f ≡ x → ((k : ℕ) → part (files k) ≡ get_or xs k d) → (k : ℕ) → part (set_file files n f k) ≡ get_or (xs ++ x ∷ []) k d
part_push part files n f xs x d last is was k =
    ⊎_elim (λ same. ap (λ b. part (cond b f (files k))) (eq-eqb k n same) ∙ is ∙ sym (ap (λ m. get_or (xs ++ x ∷ []) m d) (same ∙ last) ∙ get_or-append_seam xs x [] d))
    (λ ne. ap (λ b. part (cond b f (files k))) (ne_eqb k n ne) ∙ was k ∙ sym (others ne)) (cases_eq k n)
  where
    others : k ≢ n → get_or (xs ++ x ∷ []) k d ≡ get_or xs k d
    others ne =
        ⊎_elim (λ below. get_or-append xs (x ∷ []) d k below)
        (λ past. get_or_past (xs ++ x ∷ []) k d (let apart : k ≢ length xs = λ same. ne (same ∙ sym last) in omega (arith, length-append xs (x ∷ []), past, apart)) ∙ sym (get_or_past xs k d past))
        (cases_lt k (length xs))

-- and another one
part_set : {A : Type 0} (part : File → A) (files : ℕ → File) (n : ℕ) (f : File) (xs : List A) (x d : A) → n < length xs → part f ≡ x → ((k : ℕ) → part (files k) ≡ get_or xs k d) → (k : ℕ) → part (set_file files n f k) ≡ get_or (set xs n x) k d
part_set part files n f xs x d within is was k =
    ⊎_elim (λ same. ap (λ b. part (cond b f (files k))) (eq-eqb k n same) ∙ is ∙ sym (ap (λ m. get_or (set xs n x) m d) same ∙ get_or-set_same xs n x d within))
    (λ ne. ap (λ b. part (cond b f (files k))) (ne_eqb k n ne) ∙ was k ∙ sym (get_or-set_other xs n k x d ne)) (cases_eq k n)

-- ---- what is kept

-- one file more
pub kept_push : (v w : TreeState) (es fs : List NameAndFile) (files : List Stored) (f : File) (s : Stored) → HoldsState v es files → f.bytes ≡ s.bytes.items → f.synced ≡ s.synced
    → w.files ≡ set_file v.files v.made f → w.made ≡ v.made + 1 → ((q : List ℕ) → w.names q ≡ lookup fs q) → HoldsState w fs (files ++ s ∷ [])
kept_push v w es fs files f s kept bytes synced files_are made names = record {
  names = names;
  made = omega (arith, made, kept.made, length-append files (s ∷ []));
  bytes = λ n. ap (λ (g : ℕ → File). (g n).bytes) files_are ∙ part_push (λ (g : File). g.bytes) v.files v.made f (contents_of files) s.bytes.items [] (kept.made ∙ sym (length-contents files)) bytes kept.bytes n
      ∙ sym (ap (λ (l : List (List ℕ)). get_or l n []) (contents-push files s));
  synced = λ n. ap (λ (g : ℕ → File). (g n).synced) files_are ∙ part_push (λ (g : File). g.synced) v.files v.made f (synced_flags files) s.synced false (kept.made ∙ sym (length-flags files)) synced kept.synced n
      ∙ sym (ap (λ (l : List Bool). get_or l n false) (flags-push files s));
}

-- another one
pub kept_set : (v : TreeState) (es : List NameAndFile) (files : List Stored) (n : ℕ) (change : File → File) (s : Stored) → HoldsState v es files → n < length files → (change (v.files n)).bytes ≡ s.bytes.items → (change (v.files n)).synced ≡ s.synced
    → HoldsState (with_file_changed change v (Some n)) es (set files n s)
kept_set v es files n change s kept within bytes synced = record {
  names = kept.names;
  made = kept.made ∙ sym (length-set files n s);
  bytes = λ k. part_set (λ (g : File). g.bytes) v.files n (change (v.files n)) (contents_of files) s.bytes.items [] (omega (arith, within, length-contents files)) bytes kept.bytes k
      ∙ sym (ap (λ (l : List (List ℕ)). get_or l k []) (map-set (λ (f : Stored). f.bytes.items) files n s));
  synced = λ k. part_set (λ (g : File). g.synced) v.files n (change (v.files n)) (synced_flags files) s.synced false (omega (arith, within, length-flags files)) synced kept.synced k
      ∙ sym (ap (λ (l : List Bool). get_or l k false) (map-set (λ (f : Stored). f.synced) files n s));
}

-- ---- sound states

pub empty_file : AreFileBytes []
empty_file = record { each = All-nil (λ b. b < 256); few = lit< tt }

pub sound_empty : All IsSoundState (empty_state ∷ earlier_states [] empty_state [] [])
sound_empty = All-cons IsSoundState empty_state [] (record { folders = folders; named = named; bytes = λ n. empty_file }) (All-nil IsSoundState)
  where
    none : (map : NameMap) → IsCurrentOrOlderMap empty_state map → (q : List ℕ) → IsSome (map q) → ⊥
    none map (inl is) q some = let absent : map q ≡ None = ap (λ (m : NameMap). m q) is in absurd (cc (absent, some))
    none map (inr other) q some = other

    folders : (map : NameMap) → IsCurrentOrOlderMap empty_state map → HasNoFileAsFolder map
    folders map is p q folder has_p has_q = none map is p has_p

    named : (map : NameMap) → IsCurrentOrOlderMap empty_state map → AreNames map
    named map is q some = absurd (none map is q some)

-- names, one more or one less
pub named_put : (names : NameMap) (name : List ℕ) (n : ℕ) → AreNames names → IsName name → AreNames (put_name names name n)
named_put names name n named is q some = ⊎_elim (λ same. subst IsName (sym same) is) (λ off. named q (subst IsSome (put-off names name n q (off_name q name off)) some)) (name_cases q name)

pub named_drop : (names : NameMap) (name : List ℕ) → AreNames names → AreNames (drop_name names name)
named_drop names name named q some = by (bytes_eq q name) some
  where
    by : (b : Bool) → IsSome (cond b None (names q)) → IsName q
    by true here = absurd (cc (here))
    by false here = named q here

pub sound_with : (v : TreeState) (new : NameMap) → IsSoundState v → HasNoFileAsFolder new → AreNames new → IsSoundState (with_newer_name_map v new)
sound_with v new old good names = record { folders = folders; named = named; bytes = old.bytes }
  where
    folders : (map : NameMap) → IsCurrentOrOlderMap (with_newer_name_map v new) map → HasNoFileAsFolder map
    folders map (inl is) = subst HasNoFileAsFolder (sym is) good
    folders map (inr other) = old.folders map other

    named : (map : NameMap) → IsCurrentOrOlderMap (with_newer_name_map v new) map → AreNames map
    named map (inl is) = subst AreNames (sym is) names
    named map (inr other) = old.named map other

pub sound_one : (v : TreeState) → v.older ≡ [] → HasNoFileAsFolder v.names → AreNames v.names → ((n : ℕ) → AreFileBytes (v.files n).bytes) → IsSoundState v
sound_one v none good names bytes = record { folders = λ map is. folders v.older none map is; named = λ map is. named v.older none map is; bytes = bytes }
  where
    folders : (older : List NameMap) → older ≡ [] → (map : NameMap) → IsCurrentOrOlderMap (record v { older = older }) map → HasNoFileAsFolder map
    folders [] none map (inl is) = subst HasNoFileAsFolder (sym is) good
    folders [] none map (inr other) = absurd other
    folders (x ∷ xs) none map is = absurd (cc (none))

    named : (older : List NameMap) → older ≡ [] → (map : NameMap) → IsCurrentOrOlderMap (record v { older = older }) map → AreNames map
    named [] none map (inl is) = subst AreNames (sym is) names
    named [] none map (inr other) = absurd other
    named (x ∷ xs) none map is = absurd (cc (none))

pub set_bytes : (files : ℕ → File) (n : ℕ) (f : File) → ((k : ℕ) → AreFileBytes (files k).bytes) → AreFileBytes f.bytes → (k : ℕ) → AreFileBytes (set_file files n f k).bytes
set_bytes files n f old new k = by (k == n)
  where
    by : (b : Bool) → AreFileBytes (cond b f (files k)).bytes
    by true = new
    by false = old k

pub sound_changed : (change : File → File) (v : TreeState) (n : ℕ) → IsSoundState v → AreFileBytes (change (v.files n)).bytes → IsSoundState (with_file_changed change v (Some n))
sound_changed change v n old new = record { folders = old.folders; named = old.named; bytes = set_bytes v.files n (change (v.files n)) old.bytes new }

-- the newest state of a store is sound
pub store_sound : (cs : List Change) (es : List NameAndFile) (files : List Stored) → IsConsistentStore cs es files → IsSoundState (state_after_changes (contents_of files) empty_state cs)
store_sound cs es files store = All-head IsSoundState (state_after_changes (contents_of files) empty_state cs) (earlier_states (contents_of files) empty_state [] cs) store.sound

-- ---- the changes

-- the states that a store has with one change more
pub history_pushed : (c : Change) (cs ds : List Change) (contents more : List (List ℕ)) (w : TreeState) → IsPushed c cs ds contents more → step more c (state_after_changes contents empty_state cs) ≡ w
    → state_after_changes more empty_state ds ∷ earlier_states more empty_state [] ds ≡ w ∷ (state_after_changes contents empty_state cs ∷ earlier_states contents empty_state [] cs)
history_pushed c cs ds contents more w p is = pushed_history c cs ds contents more p ∙ ap (λ (v : TreeState). v ∷ (state_after_changes contents empty_state cs ∷ earlier_states contents empty_state [] cs)) is

-- and such a store
pub store_pushed : (c : Change) (cs ds : List Change) (es : List NameAndFile) (contents : List (List ℕ)) (files : List Stored) (w : TreeState) → IsPushed c cs ds contents (contents_of files) → step (contents_of files) c (state_after_changes contents empty_state cs) ≡ w
    → HoldsState w es files → IsSoundState w → All IsSoundState (state_after_changes contents empty_state cs ∷ earlier_states contents empty_state [] cs) → IsConsistentStore ds es files
store_pushed c cs ds es contents files w p is kept sound earlier =
    let same = sym (pushed_state c cs ds contents (contents_of files) p ∙ is) in record {
      recorded = pushed_record c cs ds contents (contents_of files) p;
      kept = subst (λ (v : TreeState). HoldsState v es files) same kept;
      sound = subst (All IsSoundState) (sym (history_pushed c cs ds contents (contents_of files) w p is)) (All-cons IsSoundState w (state_after_changes contents empty_state cs ∷ earlier_states contents empty_state [] cs) sound earlier);
    }

-- one file more
pub record IsMore (name : List ℕ) (es fs : List NameAndFile) (files more : List Stored) (s : Stored) : Type 0 where
  pub named : (q : List ℕ) → lookup fs q ≡ put_name (lookup es) name (length files) q
  pub stored : more ≡ files ++ s ∷ []

more_contents : (name : List ℕ) (es fs : List NameAndFile) (files more : List Stored) (s : Stored) → IsMore name es fs files more s → contents_of more ≡ contents_of files ++ s.bytes.items ∷ []
more_contents name es fs files more s m = ap contents_of m.stored ∙ contents-push files s

more_grows : (name : List ℕ) (es fs : List NameAndFile) (files more : List Stored) (s : Stored) → IsMore name es fs files more s → Grows (contents_of files) (contents_of more)
more_grows name es fs files more s m = subst (Grows (contents_of files)) (sym (more_contents name es fs files more s m)) (grows_push (contents_of files) s.bytes.items)

more_names : (v : TreeState) (name : List ℕ) (es fs : List NameAndFile) (files more : List Stored) (s : Stored) → IsMore name es fs files more s → HoldsState v es files → (q : List ℕ) → put_name v.names name v.made q ≡ lookup fs q
more_names v name es fs files more s m kept q = ap (λ (n : ℕ). cond (bytes_eq q name) (Some n) (v.names q)) kept.made ∙ ap (cond (bytes_eq q name) (Some (length files))) (kept.names q) ∙ sym (m.named q)

module _ (name : List ℕ) (cs ds : List Change) (es fs : List NameAndFile) (files more : List Stored) (s : Stored) (store : IsConsistentStore cs es files) (m : IsMore name es fs files more s) where
  abbrev was : TreeState
  was = state_after_changes (contents_of files) empty_state cs

  pub put_pushed : ds ≡ cs ++ Put name (length files) (length s.bytes.items) ∷ [] → IsPushed (Put name (length files) (length s.bytes.items)) cs ds (contents_of files) (contents_of more)
  put_pushed is = record {
    recorded = store.recorded;
    grows = more_grows name es fs files more s m;
    pushed = is;
    can = front_is (contents_of more) (length files) (length s.bytes.items) (record {
      within = omega (arith, ap length (more_contents name es fs files more s m), length-append (contents_of files) (s.bytes.items ∷ []), length-contents files);
      fits = omega (arith, ap length stands_last);
    });
  }
    where
      stands_last : get_or (contents_of more) (length files) [] ≡ s.bytes.items
      stands_last =
          ap (λ (l : List (List ℕ)). get_or l (length files) []) (more_contents name es fs files more s m)
          ∙ ap (λ n. get_or (contents_of files ++ s.bytes.items ∷ []) n []) (sym (length-contents files))
          ∙ get_or-append_seam (contents_of files) s.bytes.items [] []

  pub put_step : step (contents_of more) (Put name (length files) (length s.bytes.items)) was ≡ after_put name s.bytes.items was
  put_step =
      ap (λ (l : List ℕ). after_put name l was)
      (ap (take (length s.bytes.items)) (ap (λ (l : List (List ℕ)). get_or l (length files) []) (more_contents name es fs files more s m)
      ∙ ap (λ n. get_or (contents_of files ++ s.bytes.items ∷ []) n []) (sym (length-contents files))
      ∙ get_or-append_seam (contents_of files) s.bytes.items [] [])
      ∙ take-length s.bytes.items)

  pub put_kept : s.synced ≡ true → HoldsState (after_put name s.bytes.items was) fs more
  put_kept synced = subst (HoldsState (after_put name s.bytes.items was) fs) (sym m.stored)
      (kept_push was (after_put name s.bytes.items was) es fs files (record { bytes = s.bytes.items; synced = true }) s store.kept refl (sym synced) refl refl (more_names was name es fs files more s m store.kept))

  pub was_sound : IsSoundState was
  was_sound = store_sound cs es files store

  pub put_sound : IsName name → AreFileBytes s.bytes.items → CanPut name was → IsSoundState (after_put name s.bytes.items was)
  put_sound named file can = sound_one (after_put name s.bytes.items was) refl can.folders (named_put was.names name was.made (was_sound.named was.names (inl refl)) named)
      (set_bytes was.files was.made (record { bytes = s.bytes.items; synced = true }) was_sound.bytes file)

  pub store_put : ds ≡ cs ++ Put name (length files) (length s.bytes.items) ∷ [] → s.synced ≡ true → IsName name → AreFileBytes s.bytes.items → CanPut name was → IsConsistentStore ds fs more
  store_put is synced named file can = store_pushed (Put name (length files) (length s.bytes.items)) cs ds fs (contents_of files) more (after_put name s.bytes.items was) (put_pushed is) put_step (put_kept synced) (put_sound named file can) store.sound

  pub history_put : ds ≡ cs ++ Put name (length files) (length s.bytes.items) ∷ [] → state_after_changes (contents_of more) empty_state ds ∷ earlier_states (contents_of more) empty_state [] ds ≡ after_put name s.bytes.items was ∷ (was ∷ earlier_states (contents_of files) empty_state [] cs)
  history_put is = history_pushed (Put name (length files) (length s.bytes.items)) cs ds (contents_of files) (contents_of more) (after_put name s.bytes.items was) (put_pushed is) put_step

  pub create_pushed : ds ≡ cs ++ Create name ∷ [] → IsPushed (Create name) cs ds (contents_of files) (contents_of more)
  create_pushed is = record { recorded = store.recorded; grows = more_grows name es fs files more s m; pushed = is; can = refl }

  pub create_kept : s.bytes.items ≡ [] → s.synced ≡ false → HoldsState (after_create name was) fs more
  create_kept empty unsynced = subst (HoldsState (after_create name was) fs) (sym m.stored)
      (kept_push was (after_create name was) es fs files (record { bytes = []; synced = false }) s store.kept (sym empty) (sym unsynced) refl refl (more_names was name es fs files more s m store.kept))

  pub create_sound : IsName name → CanCreate name was → IsSoundState (after_create name was)
  create_sound name_is can = record { folders = folders; named = named; bytes = set_bytes was.files was.made (record { bytes = []; synced = false }) was_sound.bytes empty_file }
    where
      folders : (map : NameMap) → IsCurrentOrOlderMap (after_create name was) map → HasNoFileAsFolder map
      folders map (inl is) = subst HasNoFileAsFolder (sym is) can.folders
      folders map (inr other) = was_sound.folders map other

      named : (map : NameMap) → IsCurrentOrOlderMap (after_create name was) map → AreNames map
      named map (inl is) = subst AreNames (sym is) (named_put was.names name was.made (was_sound.named was.names (inl refl)) name_is)
      named map (inr other) = was_sound.named map other

  pub store_create : ds ≡ cs ++ Create name ∷ [] → s.bytes.items ≡ [] → s.synced ≡ false → IsName name → CanCreate name was → IsConsistentStore ds fs more
  store_create is empty unsynced named can = store_pushed (Create name) cs ds fs (contents_of files) more (after_create name was) (create_pushed is) refl (create_kept empty unsynced) (create_sound named can) store.sound

  pub history_create : ds ≡ cs ++ Create name ∷ [] → state_after_changes (contents_of more) empty_state ds ∷ earlier_states (contents_of more) empty_state [] ds ≡ after_create name was ∷ (was ∷ earlier_states (contents_of files) empty_state [] cs)
  history_create is = history_pushed (Create name) cs ds (contents_of files) (contents_of more) (after_create name was) (create_pushed is) refl

-- ---- what is read

pub read_absent : (v : TreeState) (es : List NameAndFile) (files : List Stored) (name : List ℕ) → HoldsState v es files → lookup es name ≡ None → files_of v name ≡ None
read_absent v es files name kept absent = ap (bytes_of_file_number v.files) (kept.names name ∙ absent)

pub read_present : (v : TreeState) (es : List NameAndFile) (files : List Stored) (name : List ℕ) (n : ℕ) → HoldsState v es files → lookup es name ≡ Some n → files_of v name ≡ Some (get_or (contents_of files) n [])
read_present v es files name n kept present = ap (bytes_of_file_number v.files) (kept.names name ∙ present) ∙ ap Some (kept.bytes n)

-- a name leads to a file that is stored
pub leads_within : (cs : List Change) (es : List NameAndFile) (files : List Stored) (name : List ℕ) (n : ℕ) → IsConsistentStore cs es files → lookup es name ≡ Some n → n < length files
leads_within cs es files name n store present =
    let v = state_after_changes (contents_of files) empty_state cs in
    let below = ((bounded_state (contents_of files) cs).each v.names (inl refl)).below name n (store.kept.names name ∙ present) in
    omega (arith, below, store.kept.made)

-- the bytes that are stored under a number
pub stored_bytes : (files : List Stored) (n : ℕ) (file : Stored) → n < length files → file ≡ get_or files n file → get_or (contents_of files) n [] ≡ file.bytes.items
stored_bytes files n file within is = get_or-map (λ (f : Stored). f.bytes.items) files n file [] within ∙ ap (λ (f : Stored). f.bytes.items) (sym is)

-- a file put is read, and the others as before
pub read-after_put : (name bytes : List ℕ) (v : TreeState) → AreMapsFiniteOfMadeFiles v → files_of (after_put name bytes v) ≡ put_name (files_of v) name bytes
read-after_put name bytes v bounded = λ i q. read q i
  where
    apart : (q : List ℕ) (o : Option ℕ) → v.names q ≡ o → bytes_of_file_number (after_put name bytes v).files o ≡ bytes_of_file_number v.files o
    apart q None is = refl
    apart q (Some n) is =
        let below : n < v.made = (bounded.each v.names (inl refl)).below q n is in
        ap (λ b. Some (cond b (record { bytes = bytes; synced = true }) (v.files n)).bytes) (ne_eqb n v.made (λ same. omega (arith, below, same)))

    read : (q : List ℕ) → files_of (after_put name bytes v) q ≡ put_name (files_of v) name bytes q
    read q =
        ⊎_elim (λ is. ap (bytes_of_file_number (after_put name bytes v).files) (put-at v.names name v.made q is)
        ∙ ap (λ b. Some (cond b (record { bytes = bytes; synced = true }) (v.files v.made)).bytes) (eq-eqb v.made v.made refl)
        ∙ sym (put-at (files_of v) name bytes q is))
        (λ off. let ne = off_name q name off in
        ap (bytes_of_file_number (after_put name bytes v).files) (put-off v.names name v.made q ne) ∙ apart q (v.names q) refl ∙ sym (put-off (files_of v) name bytes q ne))
        (name_cases q name)

-- ---- the list of names

pub names_listed : (names : List ℕ → Option ℕ) (es : List NameAndFile) → ((q : List ℕ) → names q ≡ lookup es q) → IsSortedNameTable es → IsSortedListOfAllNamesInMap names (names_of es)
names_listed names es same table = record { rising = rising; each = λ q. (there q, back q) }
  where
    rising : AllPairs (λ a b. slice_cmp nat_cmp a b ≡ Less) (names_of es)
    rising i j d below within =
        let e : NameAndFile = record { name = d; file = 0 } in
        let inside : j < length es = omega (arith, length-map es (λ (f : NameAndFile). f.name), within) in
        let at_i = get_or-map (λ (f : NameAndFile). f.name) es i e d (omega (arith, below, inside)) in
        let at_j = get_or-map (λ (f : NameAndFile). f.name) es j e d inside in
        (λ k. slice_cmp nat_cmp (at_i k) (at_j k)) ∙ table i j e below inside

    there : (q : List ℕ) → Contains (names_of es) q → IsSome (names q)
    there q (k, within, is) =
        let e : NameAndFile = record { name = q; file = 0 } in
        let inside : k < length es = omega (arith, length-map es (λ (f : NameAndFile). f.name), within) in
        let at = sym (get_or-map (λ (f : NameAndFile). f.name) es k e q inside) ∙ is in
        subst IsSome (sym (same q)) (subst (λ (n : List ℕ). IsSome (lookup es n)) at (looked_up es k e inside))

    back : (q : List ℕ) → IsSome (names q) → Contains (names_of es) q
    back q some =
        let e : NameAndFile = record { name = q; file = 0 } in
        let at = located es q e (subst IsSome (same q) some) in
        (at.0, omega (arith, length-map es (λ (f : NameAndFile). f.name), at.1), get_or-map (λ (f : NameAndFile). f.name) es at.0 e q at.1 ∙ at.2)

-- the newest of some states
abbrev pub newest : List TreeState → TreeState
newest [] = empty_state
newest (v ∷ earlier) = v

-- what is not present is absent
pub absent_from : (o : Option ℕ) → (IsSome o → ⊥) → o ≡ None
absent_from None off = refl
absent_from (Some n) off = absurd (off refl)
