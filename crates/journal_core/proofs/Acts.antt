-- Each action of an intent leaves what the files stand for.
use Rattle.std.proofs.Common.{◌≡◌, ◌||◌, ◌⊎◌, ◌≢◌, inl, inr, ⊎_elim, ℕ, zero, suc, ◌+◌, ◌≤◌, ◌<◌, ◌^◌, Bool, true, false, cond, List, [], ◌∷◌, length, slice_get, Option, None, Some, refl, sym, ap, subst, ◌∙◌, arith}
use Rattle.std.proofs.Math.Nat.{eq-or-lt_of_le}
use Rattle.std.specs.List.{list_any}
use Rattle.std.specs.Str.{bytes_eq}
use Rattle.std.proofs.lemmas.Bool.{or_right}
use Rattle.base_core.specs.Files.{Files, NameMap, drop_name, move_name}
use Rattle.base_core.specs.Tree.{TreeState, File, bytes_of_file_number, files_under_map, files_of, with_newer_name_map, with_file_moved, with_name_removed, after_remove, after_rename, after_sync_names}
use Rattle.base_core.specs.Undone.{IsDurable, IsCrashImage, IsCrashMap, with_change_replayed}
use Rattle.base_core.proofs.Undone.{change_whole, left_only, read_may_be_left}
use Rattle.base_core.proofs.AtName.{same_name, name_cases, off_name}
use Rattle.journal_core.specs.Recovery.{Intent, IsStagedNameOf, EachCrashLeavesStateOf, StateDependsOn, intent_name, intent_in_file, intent_of, is_hidden, move_if_present, recovered_files, stage_name, state_of, files_without_names}
use Rattle.journal_core.specs.Quiet.{StateIsUnchanged}
use Rattle.journal_core.specs.Staged.{Staging, AreActionsDone, IsCarryingOutActions, IsStillNeeded, NeededNamesAreDurable, action_count}
use Rattle.journal_core.proofs.Changes.{change_dropped, change_moved, left_here, synced_left}
use Rattle.journal_intent.proofs.AtName.{put_name-off, drop_name-at, drop_name-off}
use Rattle.journal_core.proofs.Images.{CrashLaws, quiet_by_maps, quiet_on, settled_by_maps}
use Rattle.journal_core.proofs.Simulate.{rests_same}
use Rattle.journal_intent.proofs.StageNames.{stage_names_apart, stage_name_no_intent}
use Rattle.journal_core.proofs.Waiting.{still_self}
use Rattle.journal_core.proofs.Replayed.{IsProper, IsNumbered, here, later, moved, move_if_present-off, recovered-removed, recovered-moved, recovered-done, recovered-dropped}
use Rattle.journal_intent.specs.FreeNames.{IsOneOf, IsNoneOf, IsFreeName, AreFreeNames, HaveNoRepeats}

-- ---- one map more

pub state_same : (ignored : List ℕ → Bool) (F G : Files) → recovered_files F ≡ recovered_files G → state_of ignored F ≡ state_of ignored G
state_same ignored F G same i q = cond (is_hidden ignored q) None (same i q)

-- one change of names more: with it the files of each map that a crash may leave stand for the same
pub still_more : CrashLaws → (ignored : List ℕ → Bool) (v : TreeState) (m : NameMap) → IsDurable (StateDependsOn ignored) v
    → ((kept : NameMap) → IsCrashMap v kept → recovered_files (files_under_map v (with_change_replayed v.names m kept)) ≡ recovered_files (files_under_map v kept))
    → ((kept : NameMap) → IsCrashMap v kept → (q : List ℕ) (n : ℕ) → StateDependsOn ignored (files_under_map v (with_change_replayed v.names m kept)) q → with_change_replayed v.names m kept q ≡ Some n → (v.files n).synced ≡ true)
    → StateIsUnchanged ignored v (with_newer_name_map v m)
still_more laws ignored v m was same synced =
    let is_durable : IsDurable (StateDependsOn ignored) (with_newer_name_map v m) = record { each = each } in
    record {
      is_durable = is_durable;
      quiet = quiet_by_maps laws ignored v (with_newer_name_map v m) is_durable states;
      reads = state_same ignored (files_under_map v m) (files_of v) (ap (λ (x : NameMap). recovered_files (files_under_map v x)) (sym (change_whole v.names m)) ∙ same v.names (read_may_be_left v));
      made = omega arith;
    }
  where
    each : (x : NameMap) → IsCrashMap (with_newer_name_map v m) x → (q : List ℕ) (n : ℕ) → StateDependsOn ignored (files_under_map v x) q → x q ≡ Some n → (v.files n).synced ≡ true
    each x (inl (kept, left, new)) q n rests at = synced kept left q n (subst (λ (y : NameMap). StateDependsOn ignored (files_under_map v y) q) new rests) (sym (ap (λ (y : NameMap). y q) new) ∙ at)
    each x (inr old) q n rests at = was.each x old q n rests at

    states : (x : NameMap) → IsCrashMap (with_newer_name_map v m) x → (before : Files) × IsCrashImage v before × (state_of ignored (files_under_map v x) ≡ state_of ignored before)
    states x (inl (kept, left, new)) = (
      files_under_map v kept,
      laws.left v kept left,
      ap (λ (y : NameMap). state_of ignored (files_under_map v y)) new ∙ state_same ignored (files_under_map v (with_change_replayed v.names m kept)) (files_under_map v kept) (same kept left),
    )
    states x (inr old) = (files_under_map v x, laws.left v x old, refl)

-- the same where there was one map
pub still_one : CrashLaws → (ignored : List ℕ → Bool) (v : TreeState) (m : NameMap) → v.older ≡ [] → IsDurable (StateDependsOn ignored) v → recovered_files (files_under_map v m) ≡ recovered_files (files_of v)
    → ((q : List ℕ) (n : ℕ) → StateDependsOn ignored (files_under_map v m) q → m q ≡ Some n → (v.files n).synced ≡ true) → StateIsUnchanged ignored v (with_newer_name_map v m)
still_one laws ignored v m one was same synced =
    still_more laws ignored v m was
    (λ kept left. ap (λ (x : NameMap). recovered_files (files_under_map v x)) (to kept left) ∙ same ∙ sym (ap (λ (x : NameMap). recovered_files (files_under_map v x)) (left_only v one kept left)))
    (λ kept left q n rests at. synced q n (subst (λ (y : NameMap). StateDependsOn ignored (files_under_map v y) q) (to kept left) rests) (sym (ap (λ (f : NameMap). f q) (to kept left)) ∙ at))
  where
    to : (kept : NameMap) → IsCrashMap v kept → with_change_replayed v.names m kept ≡ m
    to kept left = ap (with_change_replayed v.names m) (left_only v one kept left) ∙ change_whole v.names m

bytes_cond : (files : ℕ → File) (b : Bool) (o p : Option ℕ) → bytes_of_file_number files (cond b o p) ≡ cond b (bytes_of_file_number files o) (bytes_of_file_number files p)
bytes_cond files true o p = refl
bytes_cond files false o p = refl

by-dropped : (v : TreeState) (m : NameMap) (name : List ℕ) → files_under_map v (drop_name m name) ≡ drop_name (files_under_map v m) name
by-dropped v m name i q = bytes_cond v.files (bytes_eq q name) None (m q) i

by-moved : (v : TreeState) (m : NameMap) (from to : List ℕ) (n : ℕ) → files_under_map v (move_name m from to n) ≡ move_name (files_under_map v m) from to (v.files n).bytes
by-moved v m from to n i q = (bytes_cond v.files (bytes_eq q to) (Some n) (drop_name m from q) ∙ ap (cond (bytes_eq q to) (Some (v.files n).bytes)) (bytes_cond v.files (bytes_eq q from) None (m q))) i

pub files-dropped : (v : TreeState) (name : List ℕ) → files_under_map v (drop_name v.names name) ≡ drop_name (files_of v) name
files-dropped v = by-dropped v v.names

pub files-moved : (v : TreeState) (from to : List ℕ) (n : ℕ) → files_under_map v (move_name v.names from to n) ≡ move_name (files_of v) from to (v.files n).bytes
files-moved v = by-moved v v.names

dropped_some : (b : Bool) (o : Option ℕ) (n : ℕ) → cond b None o ≡ Some n → o ≡ Some n
dropped_some true o n is = absurd (cc)
dropped_some false o n is = is

moved_some : (a b : Bool) (o : Option ℕ) (n k : ℕ) → cond a (Some n) (cond b None o) ≡ Some k → (n ≡ k) ⊎ (o ≡ Some k)
moved_some true b o n k is = inl (cc)
moved_some false true o n k is = absurd (cc)
moved_some false false o n k is = inr is

true_false : true ≡ false → ⊥
true_false e = cc

-- ---- names of an intent

pub free_at : (names : List (List ℕ)) (i : ℕ) (name : List ℕ) → AreFreeNames names → slice_get names i ≡ Some name → IsFreeName name
free_at [] i name free at = absurd (cc)
free_at (n ∷ ns) zero name free at = let same : n ≡ name = cc in subst IsFreeName same free.0
free_at (n ∷ ns) (suc i) name free at = free_at ns i name free.1 at

pub among_at : (names : List (List ℕ)) (i : ℕ) (name : List ℕ) → slice_get names i ≡ Some name → IsOneOf name names
among_at [] i name at = absurd (cc)
among_at (n ∷ ns) zero name at = let same : n ≡ name = cc in ap (λ b. b || list_any (bytes_eq name) ns) (same_name name n (sym same))
among_at (n ∷ ns) (suc i) name at = or_right (bytes_eq name n) (list_any (bytes_eq name) ns) (among_at ns i name at)

pub numbered_at : (names : List (List ℕ)) (k i : ℕ) (name : List ℕ) → AreFreeNames names → HaveNoRepeats names → slice_get names i ≡ Some name → IsNumbered k names (k + i) name
numbered_at [] k i name free once at = absurd (cc)
numbered_at (n ∷ ns) k zero name free once at =
    let same : n ≡ name = cc in
    let first : IsNumbered k (n ∷ ns) k n = here k n ns in
    subst (λ (x : List ℕ). IsNumbered k (n ∷ ns) (k + 0) x) same (subst (λ j. IsNumbered k (n ∷ ns) j n) (omega arith) first)
numbered_at (n ∷ ns) k (suc i) name free once at =
    let rest : IsNumbered (k + 1) ns (k + 1 + i) name = numbered_at ns (k + 1) i name free.1 once.1 at in
    let moved_on : IsNumbered (k + 1) ns (k + suc i) name = subst (λ j. IsNumbered (k + 1) ns j name) (omega arith) rest in
    later k n ns (k + suc i) name (omega arith) (λ is. true_false (sym (ap (λ (x : List ℕ). list_any (bytes_eq x) ns) is ∙ among_at ns i name at) ∙ once.0)) free.0 moved_on

omega_split : (i n : ℕ) → i < n + 1 → (i ≡ n) ⊎ (i < n)
omega_split i n below = eq-or-lt_of_le (omega (arith, below))

get_below : (names : List (List ℕ)) (i : ℕ) (name : List ℕ) → slice_get names i ≡ Some name → i < length names
get_below [] i name at = absurd (cc)
get_below (n ∷ ns) zero name at = omega arith
get_below (n ∷ ns) (suc i) name at = let less = get_below ns i name at in omega (arith, less)

once_apart : (names : List (List ℕ)) (i j : ℕ) (a b : List ℕ) → HaveNoRepeats names → slice_get names i ≡ Some a → slice_get names j ≡ Some b → j < i → a ≢ b
once_apart [] i j a b once at_i at_j less = absurd (cc)
once_apart (n ∷ ns) zero j a b once at_i at_j less = absurd (omega (arith, less))
once_apart (n ∷ ns) (suc i) zero a b once at_i at_j less = λ e.
    let same : n ≡ b = cc in
    true_false (sym (among_at ns i a at_i) ∙ ap (λ (x : List ℕ). list_any (bytes_eq x) ns) (e ∙ sym same) ∙ once.0)
once_apart (n ∷ ns) (suc i) (suc j) a b once at_i at_j less = once_apart ns i j a b once.1 at_i at_j (omega (arith, less))

-- ---- what is still needed

needed_fewer : (intent : Intent) (acted : ℕ) (q : List ℕ) → IsStillNeeded intent (acted + 1) q → IsStillNeeded intent acted q
needed_fewer intent acted q (inl is) = inl is
needed_fewer intent acted q (inr (i, from, at)) = inr (i, omega (arith, from), at)

-- the intent is that of each map that a crash may leave
intent_kept : (stage : Staging) (files : Files) (v : TreeState) → IsCarryingOutActions stage files v → (kept : NameMap) → IsCrashMap v kept → intent_of (files_under_map v kept) ≡ Some stage.intent
intent_kept stage files v acting kept left = ap intent_in_file (ap (bytes_of_file_number v.files) (acting.last kept left intent_name (inl refl))) ∙ acting.located

last_as : (a b : Intent) (m n : ℕ) (w : TreeState) → b ≡ a → n ≡ m → NeededNamesAreDurable a m w → NeededNamesAreDurable b n w
last_as a b m n w same more last = subst (λ k. NeededNamesAreDurable b k w) (sym more) (subst (λ (i : Intent). NeededNamesAreDurable i m w) (sym same) last)

-- ---- a removal

removed_still_at : CrashLaws → (ignored : List ℕ → Bool) (intent : Intent) (v : TreeState) (r : List ℕ) (o : Option ℕ) → v.names r ≡ o → IsDurable (StateDependsOn ignored) v
    → ((kept : NameMap) → IsCrashMap v kept → intent_of (files_under_map v kept) ≡ Some intent) → r ≢ intent_name → IsOneOf r intent.removals → StateIsUnchanged ignored v (with_name_removed r v o)
removed_still_at laws ignored intent v r None there is_durable has ne among = still_self ignored v is_durable
removed_still_at laws ignored intent v r (Some n) there is_durable has ne among = still_more laws ignored v (drop_name v.names r) is_durable same synced
  where
    is : (kept : NameMap) → files_under_map v (with_change_replayed v.names (drop_name v.names r) kept) ≡ drop_name (files_under_map v kept) r
    is kept = ap (files_under_map v) (change_dropped v.names kept r n there) ∙ by-dropped v kept r

    same : (kept : NameMap) → IsCrashMap v kept → recovered_files (files_under_map v (with_change_replayed v.names (drop_name v.names r) kept)) ≡ recovered_files (files_under_map v kept)
    same kept left = ap recovered_files (is kept) ∙ recovered-removed (files_under_map v kept) intent r (has kept left) ne among

    at_intent : (kept : NameMap) → files_under_map v (with_change_replayed v.names (drop_name v.names r) kept) intent_name ≡ files_under_map v kept intent_name
    at_intent kept = ap (λ (F : Files). F intent_name) (is kept) ∙ drop_name-off (files_under_map v kept) r intent_name (λ e. ne (sym e))

    synced : (kept : NameMap) → IsCrashMap v kept → (q : List ℕ) (k : ℕ) → StateDependsOn ignored (files_under_map v (with_change_replayed v.names (drop_name v.names r) kept)) q → with_change_replayed v.names (drop_name v.names r) kept q ≡ Some k → (v.files k).synced ≡ true
    synced kept left q k rests at =
        is_durable.each kept left q k (rests_same ignored (files_under_map v (with_change_replayed v.names (drop_name v.names r) kept)) (files_under_map v kept) (at_intent kept) q rests)
        (dropped_some (bytes_eq q r) (kept q) k (sym (ap (λ (f : NameMap). f q) (change_dropped v.names kept r n there)) ∙ at))

-- the files as read behind it
removed_reads_at : (v : TreeState) (r : List ℕ) (o : Option ℕ) → v.names r ≡ o → files_of (with_name_removed r v o) ≡ drop_name (files_of v) r
removed_reads_at v r None none = λ i q. at q (name_cases q r) i
  where
    at : (q : List ℕ) → (q ≡ r) ⊎ (bytes_eq q r ≡ false) → files_of v q ≡ drop_name (files_of v) r q
    at q (inl is) = ap (files_of v) is ∙ ap (bytes_of_file_number v.files) none ∙ sym (drop_name-at (files_of v) r q is)
    at q (inr off) = sym (drop_name-off (files_of v) r q (off_name q r off))
removed_reads_at v r (Some n) some = files-dropped v r

pub removed_reads : (v : TreeState) (r : List ℕ) → files_of (after_remove r v) ≡ drop_name (files_of v) r
removed_reads v r = removed_reads_at v r (v.names r) refl

pub dropped_none : (F : Files) (r q : List ℕ) → F q ≡ None → drop_name F r q ≡ None
dropped_none F r q none = by (bytes_eq q r)
  where
    by : (b : Bool) → cond b None (F q) ≡ None
    by true = refl
    by false = none

-- behind the removal at its place, one action more is done
module _ (laws : CrashLaws) (stage now : Staging) (files : Files) (v : TreeState) (r : List ℕ) (acting : IsCarryingOutActions stage files v) (proper : IsProper stage.intent)
    (at : slice_get stage.intent.removals stage.acted ≡ Some r) (within : stage.acted < length stage.intent.removals) (same : now.intent ≡ stage.intent) (more : now.acted ≡ stage.acted + 1) where
  free : IsFreeName r
  free = free_at stage.intent.removals stage.acted r proper.removals at

  pub remove_still : (ignored : List ℕ → Bool) → IsDurable (StateDependsOn ignored) v → StateIsUnchanged ignored v (after_remove r v)
  remove_still ignored is_durable =
      removed_still_at laws ignored stage.intent v r (v.names r) refl is_durable (intent_kept stage files v acting) free.no_intent (among_at stage.intent.removals stage.acted r at)

  not_removed : (acted : ℕ) (q : List ℕ) → IsStillNeeded stage.intent acted q → q ≢ r
  not_removed acted q (inl is) = λ e. free.no_intent (sym e ∙ is)
  not_removed acted q (inr (i, from, inl at_i)) = λ e.
      true_false (sym (among_at stage.intent.removals stage.acted r at) ∙ sym (ap (λ (x : List ℕ). list_any (bytes_eq x) stage.intent.removals) e) ∙ proper.apart q (among_at stage.intent.writes i q at_i))
  not_removed acted q (inr (i, from, inr (within_i, is))) = λ e. free.no_place (i + 1) (sym e ∙ is)

  remove_last : (o : Option ℕ) → NeededNamesAreDurable stage.intent (stage.acted + 1) (with_name_removed r v o)
  remove_last None map left q needed = acting.last map left q (needed_fewer stage.intent stage.acted q needed)
  remove_last (Some n) map (inl (kept, left, is)) q needed = left_here v.names (drop_name v.names r) kept map is q (acting.last kept left q (needed_fewer stage.intent stage.acted q needed))
  remove_last (Some n) map (inr left) q needed =
      acting.last map left q (needed_fewer stage.intent stage.acted q needed) ∙ sym (drop_name-off v.names r q (not_removed (stage.acted + 1) q needed))

  done_more : AreActionsDone stage.intent (stage.acted + 1) (drop_name (files_of v) r)
  done_more = record { removed = removed; moved = λ k from until. absurd (omega (arith, within, from, until)) }
    where
      removed : (i : ℕ) (name : List ℕ) → i < stage.acted + 1 → slice_get stage.intent.removals i ≡ Some name → drop_name (files_of v) r name ≡ None
      removed i name below is = ⊎_elim
          (λ this. let e : Some name ≡ Some r = sym is ∙ ap (slice_get stage.intent.removals) this ∙ at in drop_name-at (files_of v) r name (cc))
          (λ before. dropped_none (files_of v) r name (acting.done.removed i name before is))
          (split i below)
        where
          split : (i : ℕ) → i < stage.acted + 1 → (i ≡ stage.acted) ⊎ (i < stage.acted)
          split i below = omega_split i stage.acted below

  pub remove_acting : IsCarryingOutActions now files (after_remove r v)
  remove_acting =
      let reads = removed_reads v r in
      record {
        located = ap intent_of reads ∙ ap intent_in_file (drop_name-off (files_of v) r intent_name (λ e. free.no_intent (sym e))) ∙ acting.located ∙ ap Some (sym same);
        reads = ap recovered_files reads ∙ recovered-removed (files_of v) stage.intent r acting.located free.no_intent (among_at stage.intent.removals stage.acted r at) ∙ acting.reads;
        done = subst (λ (F : Files). AreActionsDone now.intent now.acted F) (sym reads)
            (subst (λ n. AreActionsDone now.intent n (drop_name (files_of v) r)) (sym more) (subst (λ (i : Intent). AreActionsDone i (stage.acted + 1) (drop_name (files_of v) r)) (sym same) done_more));
        last = last_as stage.intent now.intent (stage.acted + 1) now.acted (after_remove r v) same more (remove_last (v.names r));
      }

-- ---- a waiting file moves

moved_still_at : CrashLaws → (ignored : List ℕ → Bool) (intent : Intent) (v : TreeState) (k : ℕ) (name : List ℕ) (o : Option ℕ) → v.names (stage_name k) ≡ o → IsDurable (StateDependsOn ignored) v
    → ((kept : NameMap) → IsCrashMap v kept → intent_of (files_under_map v kept) ≡ Some intent) → ((kept : NameMap) → IsCrashMap v kept → (kept (stage_name k) ≡ v.names (stage_name k)) × (kept name ≡ v.names name))
    → IsProper intent → k < 2 ^ 64 → IsStagedNameOf (Some intent) (stage_name k) → IsFreeName name → IsNumbered 1 intent.writes k name → IsNoneOf name intent.removals → StateIsUnchanged ignored v (with_file_moved (stage_name k) name v o)
moved_still_at laws ignored intent v k name None there is_durable has last proper small place free numbered out = still_self ignored v is_durable
moved_still_at laws ignored intent v k name (Some n) there is_durable has last proper small place free numbered out = still_more laws ignored v (move_name v.names (stage_name k) name n) is_durable same synced
  where
    map_is : (kept : NameMap) → IsCrashMap v kept → with_change_replayed v.names (move_name v.names (stage_name k) name n) kept ≡ move_name kept (stage_name k) name n
    map_is kept left = change_moved v.names kept (stage_name k) name n (last kept left).0 (last kept left).1

    number : (kept : NameMap) → IsCrashMap v kept → kept (stage_name k) ≡ Some n
    number kept left = (last kept left).0 ∙ there

    is : (kept : NameMap) → IsCrashMap v kept → files_under_map v (with_change_replayed v.names (move_name v.names (stage_name k) name n) kept) ≡ moved (files_under_map v kept) (stage_name k) name
    is kept left = ap (files_under_map v) (map_is kept left) ∙ by-moved v kept (stage_name k) name n ∙ sym (ap (λ p. move_if_present (files_under_map v kept) (stage_name k) name p) (ap (bytes_of_file_number v.files) (number kept left)))

    same : (kept : NameMap) → IsCrashMap v kept → recovered_files (files_under_map v (with_change_replayed v.names (move_name v.names (stage_name k) name n) kept)) ≡ recovered_files (files_under_map v kept)
    same kept left = ap recovered_files (is kept left) ∙ recovered-moved (files_under_map v kept) intent k name (has kept left) proper small free numbered out

    at_intent : (kept : NameMap) → IsCrashMap v kept → files_under_map v (with_change_replayed v.names (move_name v.names (stage_name k) name n) kept) intent_name ≡ files_under_map v kept intent_name
    at_intent kept left =
        ap (λ (F : Files). F intent_name) (is kept left)
        ∙ move_if_present-off (files_under_map v kept) (stage_name k) name (files_under_map v kept (stage_name k)) intent_name (λ e. stage_name_no_intent k (sym e)) (λ e. free.no_intent (sym e))

    synced_place : (kept : NameMap) → IsCrashMap v kept → (v.files n).synced ≡ true
    synced_place kept left = is_durable.each kept left (stage_name k) n (inr (inr (subst (λ p. IsStagedNameOf p (stage_name k)) (sym (has kept left)) place))) (number kept left)

    synced : (kept : NameMap) → IsCrashMap v kept → (q : List ℕ) (j : ℕ) → StateDependsOn ignored (files_under_map v (with_change_replayed v.names (move_name v.names (stage_name k) name n) kept)) q → with_change_replayed v.names (move_name v.names (stage_name k) name n) kept q ≡ Some j → (v.files j).synced ≡ true
    synced kept left q j rests at = ⊎_elim
        (λ e. subst (λ x. (v.files x).synced ≡ true) e (synced_place kept left))
        (λ old. is_durable.each kept left q j (rests_same ignored (files_under_map v (with_change_replayed v.names (move_name v.names (stage_name k) name n) kept)) (files_under_map v kept) (at_intent kept left) q rests) old)
        (moved_some (bytes_eq q name) (bytes_eq q (stage_name k)) (kept q) n j (sym (ap (λ (f : NameMap). f q) (map_is kept left)) ∙ at))

moved_reads_at : (v : TreeState) (from to : List ℕ) (o : Option ℕ) → v.names from ≡ o → files_of (with_file_moved from to v o) ≡ moved (files_of v) from to
moved_reads_at v from to None none = sym (ap (λ p. move_if_present (files_of v) from to p) (ap (bytes_of_file_number v.files) none))
moved_reads_at v from to (Some n) there = files-moved v from to n ∙ sym (ap (λ p. move_if_present (files_of v) from to p) (ap (bytes_of_file_number v.files) there))

pub moved_reads : (v : TreeState) (from to : List ℕ) → files_of (after_rename from to v) ≡ moved (files_of v) from to
moved_reads v from to = moved_reads_at v from to (v.names from) refl

-- what is absent elsewhere stays so
moved_none : (F : Files) (a b q : List ℕ) → F q ≡ None → q ≢ b → moved F a b q ≡ None
moved_none F a b q none ne = by (F a)
  where
    by : (o : Option (List ℕ)) → move_if_present F a b o q ≡ None
    by None = none
    by (Some x) = put_name-off (drop_name F a) b x q ne ∙ dropped_none F a q none

moved_away : (F : Files) (a b : List ℕ) → a ≢ b → moved F a b a ≡ None
moved_away F a b ne = by (F a) refl
  where
    by : (o : Option (List ℕ)) → F a ≡ o → move_if_present F a b o a ≡ None
    by None none = none
    by (Some x) some = put_name-off (drop_name F a) b x a ne ∙ drop_name-at F a a refl

module _ (laws : CrashLaws) (stage now : Staging) (files : Files) (v : TreeState) (place name : List ℕ) (j k : ℕ) (acting : IsCarryingOutActions stage files v) (proper : IsProper stage.intent)
    (place_is : place ≡ stage_name k) (number : k ≡ j + 1) (at : slice_get stage.intent.writes j ≡ Some name) (within : j < length stage.intent.writes)
    (behind : stage.acted ≡ length stage.intent.removals + j) (same : now.intent ≡ stage.intent) (more : now.acted ≡ stage.acted + 1) where
  open_name : IsFreeName name
  open_name = free_at stage.intent.writes j name proper.writes at

  small : k < 2 ^ 64
  small = let few = proper.few in omega (arith, number, within, few)

  numbered : IsNumbered 1 stage.intent.writes k name
  numbered = subst (λ i. IsNumbered 1 stage.intent.writes i name) (omega (arith, number)) (numbered_at stage.intent.writes 1 j name proper.writes proper.once at)

  out : IsNoneOf name stage.intent.removals
  out = proper.apart name (among_at stage.intent.writes j name at)

  is_place : IsStagedNameOf (Some stage.intent) (stage_name k)
  is_place = (k, omega (arith, number), omega (arith, number, within), refl)

  needed_here : (kept : NameMap) → IsCrashMap v kept → (kept (stage_name k) ≡ v.names (stage_name k)) × (kept name ≡ v.names name)
  needed_here kept left = (
    acting.last kept left (stage_name k) (inr (j, omega (arith, behind), inr (within, ap stage_name number))),
    acting.last kept left name (inr (j, omega (arith, behind), inl at)),
  )

  pub move_still : (ignored : List ℕ → Bool) → IsDurable (StateDependsOn ignored) v → StateIsUnchanged ignored v (after_rename place name v)
  move_still ignored is_durable = subst (λ (p : List ℕ). StateIsUnchanged ignored v (after_rename p name v)) (sym place_is)
      (moved_still_at laws ignored stage.intent v k name (v.names (stage_name k)) refl is_durable (intent_kept stage files v acting) needed_here proper small is_place open_name numbered out)

  -- neither is needed by a later move
  not_moved : (q : List ℕ) → IsStillNeeded stage.intent (stage.acted + 1) q → (q ≢ stage_name k) × (q ≢ name)
  not_moved q (inl is) = ((λ e. stage_name_no_intent k (sym e ∙ is)), (λ e. open_name.no_intent (sym e ∙ is)))
  not_moved q (inr (i, from, inl at_i)) = (
    (free_at stage.intent.writes i q proper.writes at_i).no_place k,
    once_apart stage.intent.writes i j q name proper.once at_i at (omega (arith, from, behind)),
  )
  not_moved q (inr (i, from, inr (within_i, is))) = (
    (λ e. let few = proper.few in let equal = stage_names_apart (i + 1) k (omega (arith, within_i, few)) small (sym is ∙ e) in absurd (omega (arith, equal, number, from, behind))),
    (λ e. open_name.no_place (i + 1) (sym e ∙ is)),
  )

  move_last : (o : Option ℕ) → NeededNamesAreDurable stage.intent (stage.acted + 1) (with_file_moved (stage_name k) name v o)
  move_last None map left q needed = acting.last map left q (needed_fewer stage.intent stage.acted q needed)
  move_last (Some n) map (inl (kept, left, is)) q needed =
      left_here v.names (move_name v.names (stage_name k) name n) kept map is q (acting.last kept left q (needed_fewer stage.intent stage.acted q needed))
  move_last (Some n) map (inr left) q needed =
      acting.last map left q (needed_fewer stage.intent stage.acted q needed)
      ∙ sym (put_name-off (drop_name v.names (stage_name k)) name n q (not_moved q needed).1 ∙ drop_name-off v.names (stage_name k) q (not_moved q needed).0)

  done_moved : AreActionsDone stage.intent (stage.acted + 1) (moved (files_of v) (stage_name k) name)
  done_moved = record { removed = removed; moved = moved_before }
    where
      removed : (i : ℕ) (r : List ℕ) → i < stage.acted + 1 → slice_get stage.intent.removals i ≡ Some r → moved (files_of v) (stage_name k) name r ≡ None
      removed i r below is =
          moved_none (files_of v) (stage_name k) name r (acting.done.removed i r (removal_below i r is) is)
          (λ e. true_false (sym (ap (λ (x : List ℕ). list_any (bytes_eq x) stage.intent.removals) (sym e) ∙ among_at stage.intent.removals i r is) ∙ out))
        where
          removal_below : (i : ℕ) (r : List ℕ) → slice_get stage.intent.removals i ≡ Some r → i < stage.acted
          removal_below i r is = let low = get_below stage.intent.removals i r is in omega (arith, low, behind)

      moved_before : (i : ℕ) → 1 ≤ i → length stage.intent.removals + i ≤ stage.acted + 1 → moved (files_of v) (stage_name k) name (stage_name i) ≡ None
      moved_before i from until = ⊎_elim
          (λ this. ap (λ n. moved (files_of v) (stage_name k) name (stage_name n)) this ∙ moved_away (files_of v) (stage_name k) name (λ e. open_name.no_place k (sym e)))
          (λ before. moved_none (files_of v) (stage_name k) name (stage_name i) (acting.done.moved i from (omega (arith, before, behind, number))) (λ e. open_name.no_place i (sym e)))
          (omega_split i k (omega (arith, until, behind, number)))

  pub move_acting : IsCarryingOutActions now files (after_rename place name v)
  move_acting = subst (λ (p : List ℕ). IsCarryingOutActions now files (after_rename p name v)) (sym place_is)
      (let reads = moved_reads v (stage_name k) name in
      record {
        located = ap intent_of reads ∙ ap intent_in_file (move_if_present-off (files_of v) (stage_name k) name (files_of v (stage_name k)) intent_name (λ e. stage_name_no_intent k (sym e)) (λ e. open_name.no_intent (sym e))) ∙ acting.located ∙ ap Some (sym same);
        reads = ap recovered_files reads ∙ recovered-moved (files_of v) stage.intent k name acting.located proper small open_name numbered out ∙ acting.reads;
        done = subst (λ (F : Files). AreActionsDone now.intent now.acted F) (sym reads)
            (subst (λ n. AreActionsDone now.intent n (moved (files_of v) (stage_name k) name)) (sym more) (subst (λ (i : Intent). AreActionsDone i (stage.acted + 1) (moved (files_of v) (stage_name k) name)) (sym same) done_moved));
        last = last_as stage.intent now.intent (stage.acted + 1) now.acted (after_rename (stage_name k) name v) same more (move_last (v.names (stage_name k)));
      })

  -- it was moved before
  pub absent_acting : v.names place ≡ None → IsCarryingOutActions now files v
  absent_acting none =
      let gone : moved (files_of v) (stage_name k) name ≡ files_of v = ap (λ o. move_if_present (files_of v) (stage_name k) name o) (ap (λ (p : List ℕ). files_of v p) (sym place_is) ∙ ap (bytes_of_file_number v.files) none) in
      record {
        located = acting.located ∙ ap Some (sym same);
        reads = acting.reads;
        done = subst (λ n. AreActionsDone now.intent n (files_of v)) (sym more) (subst (λ (i : Intent). AreActionsDone i (stage.acted + 1) (files_of v)) (sym same) (subst (λ (F : Files). AreActionsDone stage.intent (stage.acted + 1) F) gone done_moved));
        last = last_as stage.intent now.intent (stage.acted + 1) now.acted v same more (λ map left q needed. acting.last map left q (needed_fewer stage.intent stage.acted q needed));
      }

-- ---- all actions are done

pub among_index : (names : List (List ℕ)) (q : List ℕ) → IsOneOf q names → (i : ℕ) × (slice_get names i ≡ Some q)
among_index [] q among = absurd (true_false (sym among))
among_index (n ∷ ns) q among = ⊎_elim
    (λ is. (0, ap Some (sym is)))
    (λ off. let rest = among_index ns q (sym (ap (λ b. b || list_any (bytes_eq q) ns) off) ∙ among) in (suc rest.0, rest.1))
    (name_cases q n)

module _ (stage : Staging) (files : Files) (v : TreeState) (acting : IsCarryingOutActions stage files v) (behind : length stage.intent.removals ≤ stage.acted) where
  pub removal_absent : (q : List ℕ) → IsOneOf q stage.intent.removals → files_of v q ≡ None
  removal_absent q among =
      let at = among_index stage.intent.removals q among in
      let low = get_below stage.intent.removals at.0 q at.1 in
      acting.done.removed at.0 q (omega (arith, low, behind)) at.1

  without_same : files_without_names stage.intent.removals (files_of v) ≡ files_of v
  without_same i q = by (list_any (bytes_eq q) stage.intent.removals) refl i
    where
      by : (b : Bool) → list_any (bytes_eq q) stage.intent.removals ≡ b → files_without_names stage.intent.removals (files_of v) q ≡ files_of v q
      by true is = ap (λ b. cond b None (files_of v q)) is ∙ sym (removal_absent q is)
      by false is = ap (λ b. cond b None (files_of v q)) is

-- behind the removal of the intent
pub record IsGone (files : Files) (v : TreeState) : Type 0 where
  pub reads : files_of v ≡ files
  pub absent : v.names intent_name ≡ None

module _ (laws : CrashLaws) (stage : Staging) (files : Files) (v : TreeState) (acting : IsCarryingOutActions stage files v) (all : stage.acted ≡ action_count stage.intent) where
  stands_alone : recovered_files (files_of v) ≡ drop_name (files_of v) intent_name
  stands_alone = recovered-done (files_of v) stage.intent acting.located (without_same stage files v acting (omega (arith, all))) (λ i from below. acting.done.moved i from (omega (arith, all, below)))

  drop_still_at : (ignored : List ℕ → Bool) (o : Option ℕ) → v.older ≡ [] → IsDurable (StateDependsOn ignored) v → StateIsUnchanged ignored v (with_name_removed intent_name v o)
  drop_still_at ignored None one is_durable = still_self ignored v is_durable
  drop_still_at ignored (Some n) one is_durable =
      let m : NameMap = drop_name v.names intent_name in
      let is = files-dropped v intent_name in
      still_one laws ignored v m one is_durable (ap recovered_files is ∙ recovered-dropped (files_of v) ∙ sym stands_alone) (synced m refl is)
    where
      no_more_place : (m : NameMap) → files_under_map v m ≡ drop_name (files_of v) intent_name → (q : List ℕ) → IsStagedNameOf (intent_of (files_under_map v m)) q → ⊥
      no_more_place m is q place =
          subst (λ o. IsStagedNameOf o q) (ap intent_of is ∙ ap intent_in_file (drop_name-at (files_of v) intent_name intent_name refl)) place

      synced : (m : NameMap) → m ≡ drop_name v.names intent_name → files_under_map v m ≡ drop_name (files_of v) intent_name → (q : List ℕ) (k : ℕ) → StateDependsOn ignored (files_under_map v m) q → m q ≡ Some k → (v.files k).synced ≡ true
      synced m m_is is q k (inl intent) at = let none : m q ≡ None = ap (λ (f : NameMap). f q) m_is ∙ drop_name-at v.names intent_name q intent in absurd (cc (none, at))
      synced m m_is is q k (inr (inl shown)) at = is_durable.each v.names (read_may_be_left v) q k (inr (inl shown)) (dropped_some (bytes_eq q intent_name) (v.names q) k (sym (ap (λ (f : NameMap). f q) m_is) ∙ at))
      synced m m_is is q k (inr (inr place)) at = absurd (no_more_place m is q place)

  pub drop_still : (ignored : List ℕ → Bool) → v.older ≡ [] → IsDurable (StateDependsOn ignored) v → StateIsUnchanged ignored v (after_remove intent_name v)
  drop_still ignored = drop_still_at ignored (v.names intent_name)

  absent_at : (o : Option ℕ) → v.names intent_name ≡ o → (with_name_removed intent_name v o).names intent_name ≡ None
  absent_at None none = none
  absent_at (Some n) some = drop_name-at v.names intent_name intent_name refl

  pub drop_gone : IsGone files (after_remove intent_name v)
  drop_gone = record { reads = removed_reads v intent_name ∙ sym stands_alone ∙ acting.reads; absent = absent_at (v.names intent_name) refl }

-- ---- the names are synced

pub sync_still : (ignored : List ℕ → Bool) (v : TreeState) → IsDurable (StateDependsOn ignored) v → StateIsUnchanged ignored v (after_sync_names v)
sync_still ignored v is_durable = record {
  is_durable = record { each = λ m among q n rests is. is_durable.each m (synced_left v m among) q n rests is };
  quiet = λ image (m, among, by). (image, (m, synced_left v m among, by), refl);
  reads = refl;
  made = omega arith;
}

pub sync_settled : CrashLaws → (ignored : List ℕ → Bool) (v : TreeState) → IsDurable (StateDependsOn ignored) v → EachCrashLeavesStateOf ignored (files_of v) (after_sync_names v)
sync_settled laws ignored v is_durable = settled_by_maps laws ignored (files_of v) (after_sync_names v) (sync_still ignored v is_durable).is_durable each
  where
    each : (m : NameMap) → IsCrashMap (after_sync_names v) m → state_of ignored (files_under_map v m) ≡ state_of ignored (files_of v)
    each m is = ap (λ (x : NameMap). state_of ignored (files_under_map v x)) is

-- what is read, whatever a crash may undo
pub record IsReadActing (stage : Staging) (files : Files) (v : TreeState) : Type 0 where
  pub located : intent_of (files_of v) ≡ Some stage.intent
  pub reads : recovered_files (files_of v) ≡ files
  pub done : AreActionsDone stage.intent stage.acted (files_of v)

pub read_acting : (stage : Staging) (files : Files) (v : TreeState) → v.older ≡ [] → IsReadActing stage files v → IsCarryingOutActions stage files v
read_acting stage files v one read = record { located = read.located; reads = read.reads; done = read.done; last = λ map left q needed. ap (λ (m : NameMap). m q) (left_only v one map left) }

pub acting_once_synced : (stage : Staging) (files : Files) (v : TreeState) → IsReadActing stage files v → IsCarryingOutActions stage files (after_sync_names v)
acting_once_synced stage files v read = read_acting stage files (after_sync_names v) refl (record { located = read.located; reads = read.reads; done = read.done })

pub sync_acting : (stage : Staging) (files : Files) (v : TreeState) → IsCarryingOutActions stage files v → IsCarryingOutActions stage files (after_sync_names v)
sync_acting stage files v acting = acting_once_synced stage files v (record { located = acting.located; reads = acting.reads; done = acting.done })

pub sync_gone : (files : Files) (v : TreeState) → IsGone files v → IsGone files (after_sync_names v)
sync_gone files v gone = record { reads = gone.reads; absent = gone.absent }

pub still_on : (ignored : List ℕ → Bool) (a b c : TreeState) → StateIsUnchanged ignored a b → StateIsUnchanged ignored b c → StateIsUnchanged ignored a c
still_on ignored a b c first then = record { is_durable = then.is_durable; quiet = quiet_on ignored a b c first.quiet then.quiet; reads = then.reads ∙ first.reads; made = omega (arith, first.made, then.made) }
