-- The proof that each state of a tree in memory is well formed (*IsWellFormed*), as `docs/crash-safety.md`, "A tree
-- at one moment", says. This proof is here and not in `proofs/`, since the trait `Tree` has it as its field `whole`.
use Rattle.std.specs.Prelude.{◌≡◌, ℕ, ◌+◌, ◌<◌, ◌≤◌, Bool, true, false, if◌then◌else◌, ◌||◌, List, [], ◌∷◌, Option, Some, None, IsSome, All, refl}
use Rattle.std.proofs.Common.{inl, inr, sym, ap, subst, arith}
use Rattle.std.specs.Str.{bytes_eq}
use Rattle.std.specs.List.{list_any}
use Rattle.std.proofs.lemmas.List.Elements.{All-nil, All-cons}
use Rattle.base_core.specs.Files.{NameMap, HasOnlyNamesAmong, put_name, drop_name, move_name}
use Rattle.base_core.specs.Tree.{TreeState, File, IsWellFormed, IsCurrentOrOlderMap, with_file_changed, with_newer_name_map, after_create, with_file_moved, with_name_removed, after_sync_names}
use Rattle.tree_memory.specs.Changes.{empty_state, after_put, step, first_bytes_of_file, state_after_changes, earlier_states, contents_of}
use Rattle.tree_memory.specs.Kept.{IsSoundState}
use Rattle.tree_memory.specs.Memory.{history_of}
use Rattle.tree_memory.specs.declared.store.Change.{Change}
use Rattle.tree_memory.specs.declared.store.Change.TheVariants.{Put, Create, Append, Sync, Rename, Remove, SyncNames, Stay}
use Rattle.tree_memory.specs.declared.tree.MemoryTree.{MemoryTree}

-- a map of names has finitely many names, and leads only to file numbers below `made`
pub record IsFiniteMapOfMadeFiles (made : ℕ) (map : NameMap) : Type 0 where
  -- all names of the map are in some finite list
  pub finite : (names : List (List ℕ)) × HasOnlyNamesAmong names map
  -- each name leads to a file number below `made`
  pub below : (q : List ℕ) (n : ℕ) → map q ≡ Some n → n < made

-- each map of names of a state, current or older, has finitely many names and leads only to files that were made
pub record AreMapsFiniteOfMadeFiles (v : TreeState) : Type 0 where
  -- each map of names has finitely many names, and leads only to files that were made
  pub each : (map : NameMap) → IsCurrentOrOlderMap v map → IsFiniteMapOfMadeFiles v.made map

-- in the state without files each map of names is finite and leads only to made files
bounded_empty : AreMapsFiniteOfMadeFiles empty_state
bounded_empty = record { each = λ map is. record { finite = finite map is; below = made map is } }
  where
    -- each map of names of the empty state has no name, so that the empty list has all its names
    finite : (map : NameMap) → IsCurrentOrOlderMap empty_state map → (names : List (List ℕ))
        × HasOnlyNamesAmong names map
    finite map (inl is) =
        ([], λ q some. let none : map q ≡ None = ap (λ (m : NameMap). m q) is in cc (none, some))
    finite map (inr other) = absurd other

    -- no name leads to a file, so that nothing is to be proved of the file's number
    made : (map : NameMap) → IsCurrentOrOlderMap empty_state map → (q : List ℕ) (n : ℕ) → map q ≡ Some n
        → n < 0
    made map (inl is) q n at = let none : map q ≡ None =
        ap (λ (m : NameMap). m q) is in absurd (cc (none, at))
    made map (inr other) q n at = absurd other

-- ---- maps of names after one change, and states with other files

-- a map of names that leads only to files below `made` leads only to files below a greater number `more`
more_made : (made more : ℕ) (map : NameMap) → made ≤ more → IsFiniteMapOfMadeFiles made map
    → IsFiniteMapOfMadeFiles more map
more_made made more map up old =
    record {
      finite = old.finite;
      below = λ q n at. let lower : n < made =
          old.below q n at in omega (arith, lower, up);
    }

-- a map of names stays finite, and below `made`, if a name is added that leads to the made file k
bounded_put : (made : ℕ) (name : List ℕ) (k : ℕ) (map : NameMap) → k < made
    → IsFiniteMapOfMadeFiles made map
    → IsFiniteMapOfMadeFiles made (put_name map name k)
bounded_put made name k map under old = record {
  finite = (
    name ∷ old.finite.0,
    λ q some. within old.finite.0 q (bytes_eq q name)
        (old.finite.1 q) some,
  );
  below = λ q n at. lower n (bytes_eq q name) (map q) (old.below q n) at;
}
  where
    -- a name `q` of the new map is in the old list of names, or is the added name (`b` is true)
    within : (names : List (List ℕ)) (q : List ℕ) (b : Bool)
        → (IsSome (map q) → list_any (bytes_eq q) names ≡ true)
        → IsSome (if b then Some k else map q) → (b || list_any (bytes_eq q) names) ≡ true
    within names q true was some = refl
    within names q false was some = was some

    -- a name of the new map leads to a file below `made`: to k if it is the added name (`b` is true), else where it led
    lower : (n : ℕ) (b : Bool) (was : Option ℕ) → (was ≡ Some n → n < made)
        → (if b then Some k else was) ≡ Some n → n < made
    lower n true was small at = let same : k ≡ n = cc (at) in omega (arith, under)
    lower n false was small at = small at

-- a map of names stays finite, and below `made`, if a name is removed
bounded_drop : (made : ℕ) (name : List ℕ) (map : NameMap) → IsFiniteMapOfMadeFiles made map
    → IsFiniteMapOfMadeFiles made (drop_name map name)
bounded_drop made name map old = record {
  finite = (old.finite.0, λ q some. within q (bytes_eq q name) (old.finite.1 q) some);
  below = λ q n at. lower n (bytes_eq q name) (map q) (old.below q n) at;
}
  where
    -- a name `q` of the new map is a name of the old map, since it is not the removed name (`b` is false)
    within : (q : List ℕ) (b : Bool) → (IsSome (map q) → list_any (bytes_eq q) old.finite.0 ≡ true)
        → IsSome (if b then None else map q) → list_any (bytes_eq q) old.finite.0 ≡ true
    within q true was some = absurd (cc (some))
    within q false was some = was some

    -- a name of the new map leads where it led, which is a file below `made`
    lower : (n : ℕ) (b : Bool) (was : Option ℕ) → (was ≡ Some n → n < made)
        → (if b then None else was) ≡ Some n → n < made
    lower n true was small at = absurd (cc (at))
    lower n false was small at = small at

-- ---- each change of a tree leaves maps of names that are finite and lead only to made files

-- a map of names that is equal to a finite one below `made` is finite and below `made`
same_map : (made : ℕ) (map new : NameMap) → map ≡ new → IsFiniteMapOfMadeFiles made new
    → IsFiniteMapOfMadeFiles made map
same_map made map new is = subst (IsFiniteMapOfMadeFiles made) (sym is)

-- after a put, each map of names is still finite and leads only to made files
bounded-after_put : (name bytes : List ℕ) (v : TreeState) → AreMapsFiniteOfMadeFiles v
    → AreMapsFiniteOfMadeFiles (after_put name bytes v)
bounded-after_put name bytes v whole = record { each = each }
  where
    -- the state after a put has only its current map of names, to which the name was added
    each : (map : NameMap) → IsCurrentOrOlderMap (after_put name bytes v) map
        → IsFiniteMapOfMadeFiles (v.made + 1) map
    each map (inl is) =
        same_map (v.made + 1) map (put_name v.names name v.made) is
        (bounded_put (v.made + 1) name v.made v.names (omega arith)
        (more_made v.made (v.made + 1) v.names (omega arith) (whole.each v.names (inl refl))))
    each map (inr other) = absurd other

-- after a new empty file, each map of names is still finite and leads only to made files
bounded-after_create : (name : List ℕ) (v : TreeState) → AreMapsFiniteOfMadeFiles v
    → AreMapsFiniteOfMadeFiles (after_create name v)
bounded-after_create name v whole = record { each = each }
  where
    -- a map is the current one, to which the name was added, or one of the maps before
    each : (map : NameMap) → IsCurrentOrOlderMap (after_create name v) map
        → IsFiniteMapOfMadeFiles (v.made + 1) map
    each map (inl is) =
        same_map (v.made + 1) map (put_name v.names name v.made) is
        (bounded_put (v.made + 1) name v.made v.names (omega arith)
        (more_made v.made (v.made + 1) v.names (omega arith) (whole.each v.names (inl refl))))
    each map (inr old) = more_made v.made (v.made + 1) map (omega arith) (whole.each map old)

-- after a change of one file's bytes, each map of names is still finite and leads only to made files
bounded-with_file_changed : (change : File → File) (v : TreeState) (o : Option ℕ)
    → AreMapsFiniteOfMadeFiles v
    → AreMapsFiniteOfMadeFiles (with_file_changed change v o)
bounded-with_file_changed change v None whole = whole
bounded-with_file_changed change v (Some n) whole = record { each = whole.each }

-- if a state gets a new map of names that is finite and leads only to made files, this holds of each of its maps
bounded-with_newer_name_map : (v : TreeState) (new : NameMap) → AreMapsFiniteOfMadeFiles v
    → IsFiniteMapOfMadeFiles v.made new
    → AreMapsFiniteOfMadeFiles (with_newer_name_map v new)
bounded-with_newer_name_map v new whole small = record { each = each }
  where
    -- a map is the new one, or one of the maps before
    each : (map : NameMap) → IsCurrentOrOlderMap (with_newer_name_map v new) map
        → IsFiniteMapOfMadeFiles v.made map
    each map (inl is) = same_map v.made map new is small
    each map (inr old) = whole.each map old

-- after a file is moved to another name, each map of names is still finite and leads only to made files
bounded-with_file_moved : (from to : List ℕ) (v : TreeState) (o : Option ℕ) → v.names from ≡ o
    → AreMapsFiniteOfMadeFiles v → AreMapsFiniteOfMadeFiles (with_file_moved from to v o)
bounded-with_file_moved from to v None is whole = whole
bounded-with_file_moved from to v (Some n) is whole =
    let old = whole.each v.names (inl refl) in
    bounded-with_newer_name_map v (move_name v.names from to n) whole
    (bounded_put v.made to n (drop_name v.names from) (old.below from n is)
    (bounded_drop v.made from v.names old))

-- after a name is removed, each map of names is still finite and leads only to made files
bounded-with_name_removed : (name : List ℕ) (v : TreeState) (o : Option ℕ) → AreMapsFiniteOfMadeFiles v
    → AreMapsFiniteOfMadeFiles (with_name_removed name v o)
bounded-with_name_removed name v None whole = whole
bounded-with_name_removed name v (Some n) whole =
    bounded-with_newer_name_map v (drop_name v.names name) whole
    (bounded_drop v.made name v.names (whole.each v.names (inl refl)))

-- after a sync of the names, each map of names is still finite and leads only to made files
bounded-after_sync_names : (v : TreeState) → AreMapsFiniteOfMadeFiles v
    → AreMapsFiniteOfMadeFiles (after_sync_names v)
bounded-after_sync_names v whole = record { each = each }
  where
    -- the state after a sync of the names has only its current map
    each : (map : NameMap) → IsCurrentOrOlderMap (after_sync_names v) map
        → IsFiniteMapOfMadeFiles v.made map
    each map (inl is) = same_map v.made map v.names is (whole.each v.names (inl refl))
    each map (inr other) = absurd other

-- after a recorded change, each map of names is still finite and leads only to made files
pub bounded-step : (contents : List (List ℕ)) (c : Change) (v : TreeState) → AreMapsFiniteOfMadeFiles v
    → AreMapsFiniteOfMadeFiles (step contents c v)
bounded-step contents (Put name file len) v whole =
    bounded-after_put name (first_bytes_of_file contents file len) v whole
bounded-step contents (Create name) v whole = bounded-after_create name v whole
bounded-step contents (Append file len) v whole =
    bounded-with_file_changed (λ (f : File). record {
      bytes = first_bytes_of_file contents file len;
      synced =
          false;
    }) v (Some file) whole
bounded-step contents (Sync file) v whole =
    bounded-with_file_changed (λ (f : File). record { bytes = f.bytes; synced = true }) v (Some file) whole
bounded-step contents (Rename from to) v whole = bounded-with_file_moved from to v (v.names from) refl whole
bounded-step contents (Remove name) v whole = bounded-with_name_removed name v (v.names name) whole
bounded-step contents SyncNames v whole = bounded-after_sync_names v whole
bounded-step contents Stay v whole = whole

-- after the changes of a record, each map of names is still finite and leads only to made files
bounded_from : (contents : List (List ℕ)) (v : TreeState) (cs : List Change) → AreMapsFiniteOfMadeFiles v
    → AreMapsFiniteOfMadeFiles (state_after_changes contents v cs)
bounded_from contents v [] whole = whole
bounded_from contents v (c ∷ cs) whole =
    bounded_from contents (step contents c v) cs (bounded-step contents c v whole)

-- in the newest state of a record, each map of names is finite and leads only to made files
pub bounded_state : (contents : List (List ℕ)) (cs : List Change)
    → AreMapsFiniteOfMadeFiles (state_after_changes contents empty_state cs)
bounded_state contents cs = bounded_from contents empty_state cs bounded_empty

-- in each state before the newest one of a record, each map of names is finite and leads only to made files
bounded_earlier : (contents : List (List ℕ)) (v : TreeState) (earlier : List TreeState)
    (cs : List Change) → AreMapsFiniteOfMadeFiles v → All AreMapsFiniteOfMadeFiles earlier
    → All AreMapsFiniteOfMadeFiles (earlier_states contents v earlier cs)
bounded_earlier contents v earlier [] whole all = all
bounded_earlier contents v earlier (c ∷ cs) whole all =
    bounded_earlier contents (step contents c v) (v ∷ earlier) cs (bounded-step contents c v whole)
    (All-cons AreMapsFiniteOfMadeFiles v earlier whole all)

-- in each state of a record, each map of names is finite and leads only to made files
bounded_history : (contents : List (List ℕ)) (cs : List Change)
    → All AreMapsFiniteOfMadeFiles
    (state_after_changes contents empty_state cs ∷ earlier_states contents empty_state [] cs)
bounded_history contents cs =
    All-cons AreMapsFiniteOfMadeFiles (state_after_changes contents empty_state cs) _
    (bounded_state contents cs)
    (bounded_earlier contents empty_state [] cs bounded_empty (All-nil AreMapsFiniteOfMadeFiles))

-- a sound state is well formed if each map of names is finite and leads only to made files
well_formed_by_both : (v : TreeState) → AreMapsFiniteOfMadeFiles v → IsSoundState v → IsWellFormed v
well_formed_by_both v bounded sound = record {
  finite = λ map is. (bounded.each map is).finite;
  named = sound.named;
  folders = sound.folders;
  made = λ map is. (bounded.each map is).below;
  bytes = sound.bytes;
}

-- each state so far of a tree in memory is well formed
pub well_formed_history : (tree : MemoryTree) → All IsWellFormed (history_of tree)
well_formed_history tree i d within =
    well_formed_by_both _ (bounded_history (contents_of tree.store.files.items)
    tree.store.changes.items i d within) (tree.store.in_step.sound i d within)
