-- Which changes of names a crash may undo at each moment.
use Rattle.std.proofs.Common.{◌≡◌, ◌≢◌, ◌++◌, ⊎_elim, ℕ, true, false, cond, List, ◌∷◌, [], Option, None, Some, IsSome, Result, Ok, Err, OnOk, refl, sym, ap, subst, ◌∙◌}
use Rattle.std.specs.List.{list_any}
use Rattle.std.specs.Str.{bytes_eq}
use Rattle.base_core.specs.Calls.{IfObservable, HoldsNow, ChangesHistory}
use Rattle.base_core.specs.Crash.{Since}
use Rattle.base_core.specs.Files.{NameMap, drop_name, move_name}
use Rattle.base_core.specs.Tree.{TreeState, File, bytes_of_file_number, after_append, after_create, after_failed_append, after_remove, after_rename, after_sync, after_sync_names, with_file_changed, files_of, with_file_moved, with_name_removed, unchanged_after_failed_call, IsAlwaysAllowed, CanCreate, CanRename, HasName}
use Rattle.journal_core.specs.Kept.{IsAbsentAfterEachCrash, NamesAreDurableExcept}
use Rattle.journal_core.specs.Recovering.{IsIntentReplayed}
use Rattle.journal_core.specs.Recovery.{intent_name, stage_name}
use Rattle.base_core.proofs.Undone.{left_only}
use Rattle.base_core.proofs.Booleans.{neither_first, neither_second}
use Rattle.base_core.proofs.AtName.{off_name}
use Rattle.journal_core.proofs.Changes.{gone_removed, gone_synced, one_change}
use Rattle.journal_core.proofs.Chain.{IsAny, Runs, by_now, run_begun, run_called, run_done, run_failed}
use Rattle.journal_core.proofs.History.{History, done_now, now_since, observable_at, observable_map, on_observable, since_on, since_weaker}
use Rattle.journal_core.proofs.Keeping.{keep_called}
use Rattle.journal_core.proofs.OneCall.{now_is}
use Rattle.journal_intent.proofs.AtName.{put_name-off, drop_name-at, drop_name-off}
use Rattle.journal_intent.proofs.StageNames.{stage_name_no_intent}
use Rattle.journal_intent.specs.FreeNames.{IsNoneOf}

pub some_none : (o : Option ℕ) → o ≡ None → IsSome o → ⊥
some_none None none some = cc
some_none (Some n) none some = cc

pub off_first : (q a : List ℕ) (rest : List (List ℕ)) → IsNoneOf q (a ∷ rest) → q ≢ a
off_first q a rest none = off_name q a (neither_first (bytes_eq q a) (list_any (bytes_eq q) rest) none)

pub off_rest : (q a : List ℕ) (rest : List (List ℕ)) → IsNoneOf q (a ∷ rest) → IsNoneOf q rest
off_rest q a rest none = neither_second (bytes_eq q a) (list_any (bytes_eq q) rest) none

-- ---- one step

one_map : (these : List (List ℕ)) (v : TreeState) → v.older ≡ [] → NamesAreDurableExcept these v
one_map these v none map left q off = ap (λ (m : NameMap). m q) (left_only v none map left)

last_synced : (these : List (List ℕ)) (v : TreeState) → NamesAreDurableExcept these (after_sync_names v)
last_synced these v = one_map these (after_sync_names v) refl

last_removed_at : (v : TreeState) (o : Option ℕ) → v.older ≡ [] → NamesAreDurableExcept (intent_name ∷ []) (with_name_removed intent_name v o)
last_removed_at v None none map among q off = one_map (intent_name ∷ []) v none map among q off
last_removed_at v (Some n) none map left q off = ⊎_elim
    (λ is. ap (λ (m : NameMap). m q) is)
    (λ is. ap (λ (m : NameMap). m q) is ∙ sym (drop_name-off v.names intent_name q (off_first q intent_name [] off)))
    (one_change v (drop_name v.names intent_name) none map left)

abbrev pub Committing : List (List ℕ)
Committing = intent_name ∷ stage_name 0 ∷ []

last_moved_at : (v : TreeState) (o : Option ℕ) → v.older ≡ [] → NamesAreDurableExcept Committing (with_file_moved (stage_name 0) intent_name v o)
last_moved_at v None none map among q off = one_map Committing v none map among q off
last_moved_at v (Some n) none map left q off = ⊎_elim
    (λ is. ap (λ (m : NameMap). m q) is)
    (λ is.
    ap (λ (m : NameMap). m q) is
    ∙ sym (put_name-off (drop_name v.names (stage_name 0)) intent_name n q (off_first q intent_name (stage_name 0 ∷ []) off)
    ∙ drop_name-off v.names (stage_name 0) q (off_first q (stage_name 0) [] (off_rest q intent_name (stage_name 0 ∷ []) off))))
    (one_change v (move_name v.names (stage_name 0) intent_name n) none map left)

pub removed_absent : (name : List ℕ) (v : TreeState) (o : Option ℕ) → v.names name ≡ o → (with_name_removed name v o).names name ≡ None
removed_absent name v None none = none
removed_absent name v (Some n) some = drop_name-at v.names name name refl

pub moved_absent : (from to : List ℕ) (v : TreeState) (o : Option ℕ) → v.names from ≡ o → from ≢ to → (with_file_moved from to v o).names from ≡ None
moved_absent from to v None none apart = none
moved_absent from to v (Some n) some apart = put_name-off (drop_name v.names from) to n from apart ∙ drop_name-at v.names from from refl

changed_names : (change : File → File) (v : TreeState) (o : Option ℕ) → (with_file_changed change v o).names ≡ v.names
changed_names change v None = refl
changed_names change v (Some n) = refl

any_told : (h : History) → IfObservable h IsAny
any_told h = on_observable h IsAny (λ v rest is. tt)

-- ---- the end of a stage

module _ (name : List ℕ) (name_is : name ≡ intent_name) (start : TreeState) (old rest : History) (is : old ≡ start ∷ rest) (some : IsSome (start.names intent_name)) where
  abbrev P : TreeState → Type 0
  P w = w.names intent_name ≡ None → NamesAreDurableExcept (intent_name ∷ []) w

  abbrev Read : TreeState → Type 0
  Read w = IsSome (w.names intent_name)

  abbrev ReadOnce : TreeState → Type 0
  ReadOnce w = IsSome (w.names intent_name) × (w.older ≡ [])

  read_moment : (w : TreeState) → IsSome (w.names intent_name) → P w
  read_moment w has none = absurd (some_none (w.names intent_name) none has)

  removed : (w : TreeState) → w.older ≡ [] → NamesAreDurableExcept (intent_name ∷ []) (after_remove name w)
  removed w none = subst (λ (n : List ℕ). NamesAreDurableExcept (intent_name ∷ []) (after_remove n w)) (sym name_is) (last_removed_at w (w.names intent_name) none)

  begun : Runs P Read old old
  begun = run_begun P Read old start rest is some

  module _ {T E : Type 0} (h new : History) where
    pub finish_sync_failed : (e : E) → ChangesHistory {T = T} IsAlwaysAllowed after_sync_names unchanged_after_failed_call old new (Err e) → Since P old new
    finish_sync_failed e moves = run_failed P Read old old new e begun moves (λ v may q. read_moment v q)

    pub finish_synced : (x : T) → ChangesHistory {E = E} IsAlwaysAllowed after_sync_names unchanged_after_failed_call old new (Ok x) → Runs P ReadOnce old new
    finish_synced x moves = run_done P Read ReadOnce old old new x begun moves (λ v q. read_moment v q.0) (λ v q. (q, refl))

    pub finish_remove_failed : (e : E) → Runs P ReadOnce old h → ChangesHistory {T = T} IsAlwaysAllowed (after_remove name) (after_remove name) h new (Err e) → Since P old new
    finish_remove_failed e runs moves = run_failed P ReadOnce old h new e runs moves (λ v may q none. removed v q.1)

    pub finish_removed : (x : T) → Runs P ReadOnce old h → ChangesHistory {E = E} IsAlwaysAllowed (after_remove name) (after_remove name) h new (Ok x) → Runs P (NamesAreDurableExcept (intent_name ∷ [])) old new
    finish_removed x runs moves = run_done P ReadOnce (NamesAreDurableExcept (intent_name ∷ [])) old h new x runs moves (λ v q none. q) (λ v q. removed v q.1)

    pub finish_last : (r : Result T E) → Runs P (NamesAreDurableExcept (intent_name ∷ [])) old h → ChangesHistory IsAlwaysAllowed after_sync_names unchanged_after_failed_call h new r → Since P old new
    finish_last r runs moves = run_called P (NamesAreDurableExcept (intent_name ∷ [])) old h new r runs moves (λ v q none. last_synced (intent_name ∷ []) v) (λ v may q none. q)

module _ {A B : Type 0} (name : List ℕ) (name_is : name ≡ intent_name) (h k new : History) (x : A) (first : ChangesHistory {E = B} IsAlwaysAllowed (after_remove name) (after_remove name) h k (Ok x)) where
  pub finish_gone : {T E : Type 0} (r : Result T E) → ChangesHistory IsAlwaysAllowed after_sync_names unchanged_after_failed_call k new r → OnOk r (IfObservable new (IsAbsentAfterEachCrash intent_name))
  finish_gone (Err e) last = tt
  finish_gone (Ok y) last =
      done_now (λ w. w.names intent_name ≡ None) (IsAbsentAfterEachCrash intent_name) after_sync_names unchanged_after_failed_call k new y
      (done_now IsAny (λ w. w.names intent_name ≡ None) (after_remove name) (after_remove name) h k x (any_told h) first
      (λ v q. ap (after_remove name v).names (sym name_is) ∙ removed_absent name v (v.names name) refl))
      last (gone_synced intent_name)

-- ---- the intent moves to its name

module _ (place name : List ℕ) (place_is : place ≡ stage_name 0) (name_is : name ≡ intent_name) where
  abbrev Q : TreeState → Type 0
  Q w = IsSome (w.names intent_name) → NamesAreDurableExcept Committing w

  abbrev Unread : TreeState → Type 0
  Unread w = w.names intent_name ≡ None

  abbrev UnreadOnce : TreeState → Type 0
  UnreadOnce w = (w.names intent_name ≡ None) × (w.older ≡ [])

  unread_moment : (w : TreeState) → Unread w → Q w
  unread_moment w none has = absurd (some_none (w.names intent_name) none has)

  moved : (w : TreeState) → w.older ≡ [] → NamesAreDurableExcept Committing (after_rename place name w)
  moved w none = subst (λ (p : List ℕ). NamesAreDurableExcept Committing (after_rename p name w)) (sym place_is)
      (subst (λ (n : List ℕ). NamesAreDurableExcept Committing (after_rename (stage_name 0) n w)) (sym name_is) (last_moved_at w (w.names (stage_name 0)) none))

  module _ (start : TreeState) (old rest : History) (is : old ≡ start ∷ rest) (none : start.names intent_name ≡ None) where
    enter_begun : Runs Q Unread old old
    enter_begun = run_begun Q Unread old start rest is none

    module _ {T E : Type 0} (h new : History) where
      pub enter_sync_failed : (e : E) → ChangesHistory {T = T} IsAlwaysAllowed after_sync_names unchanged_after_failed_call old new (Err e) → Since Q old new
      enter_sync_failed e moves = run_failed Q Unread old old new e enter_begun moves (λ v may q. unread_moment v q)

      pub enter_synced : (x : T) → ChangesHistory {E = E} IsAlwaysAllowed after_sync_names unchanged_after_failed_call old new (Ok x) → Runs Q UnreadOnce old new
      enter_synced x moves = run_done Q Unread UnreadOnce old old new x enter_begun moves (λ v q. unread_moment v q.0) (λ v q. (q, refl))

      pub enter_rename_failed : (e : E) → Runs Q UnreadOnce old h → ChangesHistory {T = T} (CanRename place name) (after_rename place name) (after_rename place name) h new (Err e) → Since Q old new
      enter_rename_failed e runs moves = run_failed Q UnreadOnce old h new e runs moves (λ v may q has. moved v q.1)

      pub enter_renamed : (x : T) → Runs Q UnreadOnce old h → ChangesHistory {E = E} (CanRename place name) (after_rename place name) (after_rename place name) h new (Ok x) → Runs Q (NamesAreDurableExcept Committing) old new
      enter_renamed x runs moves = run_done Q UnreadOnce (NamesAreDurableExcept Committing) old h new x runs moves (λ v q has. q) (λ v q. moved v q.1)

      pub enter_last : (r : Result T E) → Runs Q (NamesAreDurableExcept Committing) old h → ChangesHistory IsAlwaysAllowed after_sync_names unchanged_after_failed_call h new r → Since Q old new
      enter_last r runs moves = run_called Q (NamesAreDurableExcept Committing) old h new r runs moves (λ v q has. last_synced Committing v) (λ v may q has. q)

  module _ {A B : Type 0} (h k new : History) (x : A) (first : ChangesHistory {E = B} (CanRename place name) (after_rename place name) (after_rename place name) h k (Ok x)) where
    waits_no_more : (v : TreeState) → (after_rename place name v).names (stage_name 0) ≡ None
    waits_no_more v = ap (after_rename place name v).names (sym place_is) ∙ moved_absent place name v (v.names place) refl (λ e. stage_name_no_intent 0 (sym place_is ∙ e ∙ name_is))

    pub enter_moved : {T E : Type 0} (r : Result T E) → ChangesHistory IsAlwaysAllowed after_sync_names unchanged_after_failed_call k new r → OnOk r (IfObservable new (λ w. w.names (stage_name 0) ≡ None))
    enter_moved (Err e) last = tt
    enter_moved (Ok y) last =
        done_now (λ w. w.names (stage_name 0) ≡ None) (λ w. w.names (stage_name 0) ≡ None) after_sync_names unchanged_after_failed_call k new y
        (done_now IsAny (λ w. w.names (stage_name 0) ≡ None) (after_rename place name) (after_rename place name) h k x (any_told h) first (λ v q. waits_no_more v))
        last (λ v q. q)

-- ---- it is written

module _ (place : List ℕ) (place_is : place ≡ stage_name 0) (start : TreeState) (old rest : History) (is : old ≡ start ∷ rest) (none : start.names intent_name ≡ None) where
  abbrev N : TreeState → Type 0
  N w = w.names intent_name ≡ None

  made : (w : TreeState) → N w → N (after_create place w)
  made w q = put_name-off w.names place w.made intent_name (λ e. stage_name_no_intent 0 (sym (e ∙ place_is))) ∙ q

  changed : (change : File → File) (w : TreeState) → N w → N (with_file_changed change w (w.names place))
  changed change w q = ap (λ (m : NameMap). m intent_name) (changed_names change w (w.names place)) ∙ q

  module _ {T E : Type 0} (h new : History) where
    pub make_failed : (e : E) → ChangesHistory {T = T} (CanCreate place) (after_create place) (after_create place) old new (Err e) → Since N old new
    make_failed e moves = run_failed N N old old new e (run_begun N N old start rest is none) moves (λ v may q. made v q)

    pub make_done : (x : T) → ChangesHistory {E = E} (CanCreate place) (after_create place) (after_create place) old new (Ok x) → Runs N N old new
    make_done x moves = run_done N N N old old new x (run_begun N N old start rest is none) moves (λ v q. q) made

    module _ (piece : List ℕ) where
      pub fill_failed : (e : E) → Runs N N old h → ChangesHistory {T = T} (HasName place) (after_append place piece) (after_failed_append place) h new (Err e) → Since N old new
      fill_failed e runs moves = run_failed N N old h new e runs moves (λ v may q. changed (λ f. record { bytes = f.bytes; synced = false }) v q)

      pub fill_done : (x : T) → Runs N N old h → ChangesHistory {E = E} (HasName place) (after_append place piece) (after_failed_append place) h new (Ok x) → Runs N N old new
      fill_done x runs moves = run_done N N N old h new x runs moves (λ v q. q) (changed (λ f. record { bytes = f.bytes ++ piece; synced = false }))

    pub sync_done : (r : Result T E) → Runs N N old h → ChangesHistory (HasName place) (after_sync place) unchanged_after_failed_call h new r → Since N old new
    sync_done r runs moves = run_called N N old h new r runs moves (changed (λ f. record { bytes = f.bytes; synced = true })) (λ v may q. q)

-- both
module _ (old mid new : History) where
  abbrev LastsRead : TreeState → Type 0
  LastsRead w = IsSome (w.names intent_name) → NamesAreDurableExcept Committing w

  abbrev IsUnread : TreeState → Type 0
  IsUnread w = w.names intent_name ≡ None

  unread_lasts : (w : TreeState) → IsUnread w → LastsRead w
  unread_lasts w none has = absurd (some_none (w.names intent_name) none has)

  pub written_last : IfObservable old (λ v. IsUnread v → Since IsUnread old mid) → IfObservable old (λ v. IsUnread v → Since LastsRead old mid)
  written_last first = observable_map old _ _ first (λ v t none. since_weaker IsUnread LastsRead old mid unread_lasts (t none))

  pub published_last : IfObservable old (λ v. IsUnread v → Since IsUnread old mid) → IfObservable mid (λ u. IsUnread u → Since LastsRead mid new) → IfObservable old (λ v. IsUnread v → Since LastsRead old new)
  published_last first then = on_observable old _ (λ v rest is none.
      let since = observable_at old v rest is (λ u. IsUnread u → Since IsUnread old mid) first none in
      since_on LastsRead old mid new (since_weaker IsUnread LastsRead old mid unread_lasts since) (by_now mid IsUnread (Since LastsRead mid new) (now_since IsUnread old mid v rest is none since) then))

pub ok_absent : {T E : Type 0} (r : Result T E) (old : History) (name : List ℕ) → IfObservable old (CanCreate name) → OnOk r (IfObservable old (λ v. v.names name ≡ None))
ok_absent (Err e) old name told = tt
ok_absent (Ok x) old name told = observable_map old (CanCreate name) (λ v. v.names name ≡ None) told (λ v may. may.absent)

-- ---- a recovery

abbrev pub Stays : History → History → Type 0
Stays old h = IfObservable old (λ v. IsAbsentAfterEachCrash intent_name v → HoldsNow h (IsAbsentAfterEachCrash intent_name))

pub stays_start : (old : History) → Stays old old
stays_start old = on_observable old _ (λ v rest is away. now_is old v rest (IsAbsentAfterEachCrash intent_name) is away)

pub stays_done : {T E : Type 0} (old h new : History) (name : List ℕ) (x : T) → Stays old h → ChangesHistory {E = E} IsAlwaysAllowed (after_remove name) (after_remove name) h new (Ok x) → Stays old new
stays_done old h new name x stays moves = observable_map old _ _ stays (λ v s away.
    keep_called (IsAbsentAfterEachCrash intent_name) (IsAbsentAfterEachCrash intent_name) new h (Ok x) (s away) moves (λ u q. gone_removed intent_name name u (u.names name) q) (λ u q. q) (λ u q. gone_removed intent_name name u (u.names name) q))

pub stays_back : (old mid new : History) → mid ≡ old → Stays mid new → Stays old new
stays_back old mid new same stays = subst (λ (l : History). Stays l new) same stays

pub found_gone : {T E : Type 0} (r : Result T E) (old new : History) → OnOk r (IfObservable new (IsAbsentAfterEachCrash intent_name)) → IfObservable old (λ v. IsSome (v.names intent_name) → OnOk r (IfObservable new (IsAbsentAfterEachCrash intent_name)))
found_gone r old new gone = on_observable old _ (λ v rest is some. gone)

unread_name : (files : ℕ → File) (o : Option ℕ) → None ≡ bytes_of_file_number files o → o ≡ None
unread_name files None is = refl
unread_name files (Some n) is = absurd (cc)

pub none_gone : (old new : History) (name : List ℕ) → name ≡ intent_name → IfObservable old (λ v. None ≡ files_of v name) → IfObservable old (λ v. IsSome (v.names intent_name) → IfObservable new (IsAbsentAfterEachCrash intent_name))
none_gone old new name name_is found = observable_map old _ _ found (λ v is some. absurd (some_none (v.names intent_name) (unread_name v.files (v.names intent_name) (is ∙ ap (files_of v) name_is)) some))

pub all_gone : (old mid new : History) → IfObservable old (λ v. HoldsNow mid (IsIntentReplayed v)) → IfObservable old (λ v. IsSome (v.names intent_name) → IfObservable mid (IsAbsentAfterEachCrash intent_name)) → Stays mid new
    → IfObservable old (λ v. IsSome (v.names intent_name) → HoldsNow new (IsAbsentAfterEachCrash intent_name))
all_gone old mid new replayed gone stays = on_observable old _ (λ v rest is some.
    both (IsIntentReplayed v) mid (observable_at old v rest is (λ u. HoldsNow mid (IsIntentReplayed u)) replayed) (observable_at old v rest is (λ u. IsSome (u.names intent_name) → IfObservable mid (IsAbsentAfterEachCrash intent_name)) gone some) stays)
  where
    both : (R : TreeState → Type 0) (h : History) → HoldsNow h R → IfObservable h (IsAbsentAfterEachCrash intent_name) → IfObservable h (λ u. IsAbsentAfterEachCrash intent_name u → HoldsNow new (IsAbsentAfterEachCrash intent_name)) → HoldsNow new (IsAbsentAfterEachCrash intent_name)
    both R [] now away s = absurd now
    both R (u ∷ h) now away s = s away
