-- An image is put together name by name.
use Rattle.std.proofs.Common.{◌≡◌, ⊎_elim, ℕ, zero, suc, ◌+◌, ◌-◌, ◌/◌, ◌%◌, ◌<◌, ◌≤◌, ◌==◌, Bool, true, false, cond, ◌||◌, replicate, List, [], ◌∷◌, ◌++◌, length, get_or, take, drop, Option, None, Some, IsSome, refl, sym, ap, subst, ◌∙◌, arith, length-take}
use Rattle.std.proofs.lemmas.List.{take_more, take_all, drop_all, get_or-map, get_or-reverse, length-reverse, get_or-take}
use Rattle.std.proofs.lemmas.Bool.{cases_eq, eq-eqb, ne_eqb}
use Rattle.std.specs.Str.{bytes_eq}
use Rattle.std.specs.Option.{option_map}
use Rattle.base_core.specs.Crash.{CrashMayLeaveBytesOfFileNumber}
use Rattle.base_core.specs.Undone.{IsAfterCrash, IsCrashMap}
use Rattle.base_core.proofs.Undone.{left_each, read_may_be_left}
use Rattle.base_core.specs.Files.{Files, NameMap, no_names, put_name, HasNoFileAsFolder}
use Rattle.base_core.specs.Tree.{TreeState, IsCurrentOrOlderMap, bytes_of_file_number, files_of, set_file}
use Rattle.std.proofs.lemmas.Nat.{mod_below}
use Rattle.base_core.proofs.AtName.{name_cases, off_name}
use Rattle.tree_memory.specs.Changes.{empty_state, after_put, state_after_changes, can_record_changes}
use Rattle.tree_memory.specs.Images.{picked_crash_map, crash_map_pick_count_of, crash_bytes, stored_file, IsPickedImageMap, IsImageOf, HasImageNames}
use Rattle.tree_memory.specs.Kept.{HoldsState, CanPut}
use Rattle.tree_memory.specs.Table.{IsSortedNameTable, lookup}
use Rattle.tree_memory.specs.WellFormedLaw.{AreMapsFiniteOfMadeFiles}
use Rattle.tree_memory.proofs.AtName.{put-at, put-off}
use Rattle.tree_memory.proofs.Keeping.{read-after_put, stored_bytes}
use Rattle.tree_memory.proofs.Undoing.{picked_left}
use Rattle.tree_memory.proofs.Placed.{apart, lookup_named, lookup_off, lookup_insert, looked_up}
use Rattle.tree_memory.proofs.Folders.{entry_at}
use Rattle.tree_memory.specs.declared.store.Change.{Change}
use Rattle.tree_memory.specs.declared.store.Stored.{Stored}
use Rattle.tree_memory.specs.declared.table.NameAndFile.{NameAndFile}

-- ---- the names so far, and the next one

absent_so_far : (es : List NameAndFile) (i : ℕ) (e : NameAndFile) → IsSortedNameTable es → i < length es → e ≡ get_or es i e → lookup (take i es) e.name ≡ None
absent_so_far es i e table within is = lookup_off (take i es) e.name e (λ j below same.
    let lower : j < i = omega (arith, below, length-take i es) in
    apart es table j i e lower within (ap (λ (x : NameAndFile). x.name) (sym (get_or-take i es j e lower)) ∙ same ∙ ap (λ (x : NameAndFile). x.name) is))

lookup_push : (es : List NameAndFile) (e : NameAndFile) → lookup es e.name ≡ None → (q : List ℕ) → lookup (es ++ e ∷ []) q ≡ put_name (lookup es) e.name e.file q
lookup_push es e none q =
    ap (λ (l : List NameAndFile). lookup l q) (sym (ap (λ (l : List NameAndFile). l ++ e ∷ drop (length es) es) (take_all (length es) es (omega arith)) ∙ ap (λ (l : List NameAndFile). es ++ e ∷ l) (drop_all (length es) es (omega arith))))
    ∙ lookup_insert es (length es) e none q

next_name : (es : List NameAndFile) (i : ℕ) (e : NameAndFile) → IsSortedNameTable es → i < length es → e ≡ get_or es i e → (q : List ℕ) → lookup (take (i + 1) es) q ≡ put_name (lookup (take i es)) e.name e.file q
next_name es i e table within is q =
    ap (λ (l : List NameAndFile). lookup l q) (take_more es i e within ∙ ap (λ (x : NameAndFile). take i es ++ x ∷ []) (sym is))
    ∙ lookup_push (take i es) e (absent_so_far es i e table within is) q

lookup_take : (es : List NameAndFile) (i : ℕ) (q : List ℕ) → IsSome (lookup (take i es) q) → IsSome (lookup es q)
lookup_take [] zero q some = some
lookup_take [] (suc i) q some = some
lookup_take (e ∷ es) zero q some = absurd (cc (some))
lookup_take (e ∷ es) (suc i) q some = by (bytes_eq q e.name) (lookup_take es i q) some
  where
    by : (b : Bool) → (IsSome (lookup (take i es) q) → IsSome (lookup es q)) → IsSome (cond b (Some e.file) (lookup (take i es) q)) → IsSome (cond b (Some e.file) (lookup es q))
    by true more here = refl
    by false more there = more there

-- ---- the tree so far

-- it has the files of the first names, as the crash leaves them, all synced under one map
pub record IsSoFar (v : TreeState) (way : ℕ) (es : List NameAndFile) (i : ℕ) (w : TreeState) : Type 0 where
  pub files : (q : List ℕ) → files_of w q ≡ option_map (λ n. crash_bytes way (v.files n)) (lookup (take i es) q)
  pub one_map : w.older ≡ []
  pub synced : (q : List ℕ) (n : ℕ) → w.names q ≡ Some n → (w.files n).synced ≡ true

pub so_far_none : (v : TreeState) (way : ℕ) (es : List NameAndFile) (w : TreeState) → w ≡ empty_state → IsSoFar v way es 0 w
so_far_none v way es w is = subst (IsSoFar v way es 0) (sym is) (record { files = λ q. refl; one_map = refl; synced = λ q n at. absurd (cc (at)) })

module _ (v : TreeState) (way : ℕ) (es : List NameAndFile) (table : IsSortedNameTable es) (i : ℕ) (w : TreeState) (so_far : IsSoFar v way es i w) where
  present : (q : List ℕ) → IsSome (w.names q) → IsSome (lookup (take i es) q)
  present q = by (w.names q) (lookup (take i es) q) (so_far.files q)
    where
      by : (o r : Option ℕ) → bytes_of_file_number w.files o ≡ option_map (λ n. crash_bytes way (v.files n)) r → IsSome o → IsSome r
      by None r is some = absurd (cc (some))
      by (Some n) None is some = absurd (cc (is))
      by (Some n) (Some m) is some = refl

  module _ (e : NameAndFile) (within : i < length es) (here : e ≡ get_or es i e) where
    -- the next name fits
    pub can_next : HasNoFileAsFolder (lookup es) → CanPut e.name w
    can_next folders = record { folders = λ p q folder has_p has_q. folders p q folder (there p has_p) (there q has_q) }
      where
        there : (q : List ℕ) → IsSome (put_name w.names e.name w.made q) → IsSome (lookup es q)
        there q some = ⊎_elim
            (λ is. subst (λ (n : List ℕ). IsSome (lookup es n)) (ap (λ (x : NameAndFile). x.name) (sym here) ∙ sym is) (looked_up es i e within))
            (λ off. lookup_take es i q (present q (subst IsSome (put-off w.names e.name w.made q (off_name q e.name off)) some)))
            (name_cases q e.name)

    pub so_far_next : (bytes : List ℕ) (u : TreeState) → AreMapsFiniteOfMadeFiles w → bytes ≡ crash_bytes way (v.files e.file) → u ≡ after_put e.name bytes w → IsSoFar v way es (i + 1) u
    so_far_next bytes u whole are is = subst (IsSoFar v way es (i + 1)) (sym is) (record { files = files; one_map = refl; synced = synced })
      where
        both_ways : (b : Bool) (r : Option ℕ) → cond b (Some (crash_bytes way (v.files e.file))) (option_map (λ n. crash_bytes way (v.files n)) r) ≡ option_map (λ n. crash_bytes way (v.files n)) (cond b (Some e.file) r)
        both_ways true r = refl
        both_ways false r = refl

        files : (q : List ℕ) → files_of (after_put e.name bytes w) q ≡ option_map (λ n. crash_bytes way (v.files n)) (lookup (take (i + 1) es) q)
        files q =
            ap (λ (f : Files). f q) (read-after_put e.name bytes w whole)
            ∙ ap (λ (b : List ℕ). cond (bytes_eq q e.name) (Some b) (files_of w q)) are
            ∙ ap (cond (bytes_eq q e.name) (Some (crash_bytes way (v.files e.file)))) (so_far.files q)
            ∙ both_ways (bytes_eq q e.name) (lookup (take i es) q)
            ∙ sym (ap (option_map (λ n. crash_bytes way (v.files n))) (next_name es i e table within here q))

        synced : (q : List ℕ) (n : ℕ) → put_name w.names e.name w.made q ≡ Some n → (set_file w.files w.made (record { bytes = bytes; synced = true }) n).synced ≡ true
        synced q n at = ⊎_elim
            (λ new. ap (λ b. (cond b (record { bytes = bytes; synced = true }) (w.files n)).synced) (eq-eqb n w.made new))
            (λ old. ap (λ b. (cond b (record { bytes = bytes; synced = true }) (w.files n)).synced) (ne_eqb n w.made old)
            ∙ ⊎_elim (λ is. absurd (old (some_same (sym at ∙ put-at w.names e.name w.made q is)))) (λ off. so_far.synced q n (sym (put-off w.names e.name w.made q (off_name q e.name off)) ∙ at)) (name_cases q e.name))
            (cases_eq n w.made)
          where
            some_same : {m n : ℕ} → Some m ≡ Some n → m ≡ n
            some_same e = cc (e)

    -- it leads to a file that was made
    pub number_made : IsCrashMap v (lookup es) → AreMapsFiniteOfMadeFiles v → e.file < v.made
    number_made left whole =
        left_each (λ (o : Option ℕ). o ≡ Some e.file → e.file < v.made) v e.name (λ one is at. (whole.each one is).below e.name e.file at) (lookup es) left
        (lookup_named es i e.name e table (record { within = within; here = λ d. ap (λ (x : NameAndFile). x.name) (entry_at es i e d within here) }) ∙ ap (λ (x : NameAndFile). Some x.file) (sym here))

-- ---- the tree that is done

module _ (v : TreeState) (way : ℕ) (es : List NameAndFile) (i : ℕ) (all : length es ≤ i) (w : TreeState) (so_far : IsSoFar v way es i w) where
  image_files : (q : List ℕ) → files_of w q ≡ option_map (λ n. crash_bytes way (v.files n)) (lookup es q)
  image_files q = so_far.files q ∙ ap (λ (l : List NameAndFile). option_map (λ n. crash_bytes way (v.files n)) (lookup l q)) (take_all i es all)

  may : (o : Option ℕ) → CrashMayLeaveBytesOfFileNumber v.files o (option_map (λ n. crash_bytes way (v.files n)) o)
  may None = refl
  may (Some n) = λ synced. ap (λ b. cond (b || (way == 0)) (v.files n).bytes (cond (way == 1) [] (replicate (length (v.files n).bytes) 255))) synced

  pub image_crash : IsCrashMap v (lookup es) → IsAfterCrash v w
  image_crash left = record {
    left = (lookup es, left, λ q. subst (CrashMayLeaveBytesOfFileNumber v.files (lookup es q)) (sym (image_files q)) (may (lookup es q)));
    one_map = so_far.one_map;
    synced = so_far.synced;
  }

  pub image_is : (choice picks : ℕ) → picks ≡ crash_map_pick_count_of v → way ≡ (choice / picks) % 3 → HasImageNames (choice % picks) v es → IsImageOf choice v (files_of w)
  image_is choice picks count is names = (
    lookup es,
    subst (λ p. IsPickedImageMap (choice % p) v (lookup es)) count names.map,
    λ q. image_files q ∙ ap (λ k. option_map (λ n. crash_bytes k (v.files n)) (lookup es q)) (is ∙ ap (λ p. (choice / p) % 3) count),
  )

-- ---- the names of an image

module _ (pick : ℕ) (v : TreeState) (es : List NameAndFile) where
  pub names_fit : ((q : List ℕ) → lookup es q ≡ picked_crash_map pick v q) → HasNoFileAsFolder (lookup es) → HasImageNames pick v es
  names_fit same folders =
      let is : lookup es ≡ picked_crash_map pick v = λ i q. same q i in record {
        map = record { fits = λ has. is; as_read = λ none. absurd (none (subst HasNoFileAsFolder is folders)) };
        left = subst (IsCrashMap v) (sym is) (picked_left pick v);
        folders = folders;
      }

  pub names_as_read : (HasNoFileAsFolder (picked_crash_map pick v) → ⊥) → ((q : List ℕ) → v.names q ≡ lookup es q) → HasNoFileAsFolder v.names → HasImageNames pick v es
  names_as_read off same folders =
      let is : lookup es ≡ v.names = λ i q. sym (same q) i in record {
        map = record { fits = λ has. absurd (off has); as_read = λ none. is };
        left = subst (IsCrashMap v) (sym is) (read_may_be_left v);
        folders = subst HasNoFileAsFolder (sym is) folders;
      }

-- a file as it is stored
pub file_at : (v : TreeState) (es : List NameAndFile) (files : List Stored) (n : ℕ) (s : Stored) → HoldsState v es files → n < length files → s ≡ get_or files n s → stored_file s ≡ v.files n
file_at v es files n s kept within is =
    let bytes = sym (kept.bytes n ∙ stored_bytes files n s within is) in
    let synced = sym (kept.synced n ∙ get_or-map (λ (f : Stored). f.synced) files n s false within ∙ ap (λ (f : Stored). f.synced) (sym is)) in
    λ i. record { bytes = bytes i; synced = synced i }
