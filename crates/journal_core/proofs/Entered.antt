-- What each call keeps while an intent comes to are under its name.
use Rattle.std.proofs.Common.{◌≡◌, ◌≢◌, ◌⊎◌, ◌||◌, inl, inr, ⊎_elim, ℕ, ◌≤◌, ◌+◌, Bool, true, false, cond, List, [], ◌∷◌, Option, None, Some, IsSome, Result, Ok, Err, OnOk, refl, sym, ap, subst, ◌∙◌, arith}
use Rattle.std.specs.List.{list_any}
use Rattle.std.specs.Str.{bytes_eq}
use Rattle.base_core.specs.Files.{Files, NameMap, put_name, drop_name, move_name}
use Rattle.base_core.specs.Tree.{TreeState, File, bytes_of_file_number, files_under_map, files_of, with_newer_name_map, after_rename, with_file_moved, after_sync_names, unchanged_after_failed_call, IsAlwaysAllowed, CanRename}
use Rattle.base_core.specs.Calls.{HoldsNow, ChangesHistory}
use Rattle.base_core.specs.Crash.{Since}
use Rattle.base_core.specs.Undone.{IsDurable, IsCrashImage, IsCrashMap}
use Rattle.journal_core.specs.Committing.{HasCommittedIntent, IsCommitting, IsReadyToPublish}
use Rattle.journal_core.specs.Acting.{stage_with_actions_done}
use Rattle.journal_core.specs.Recovery.{Intent, IsStagedNameOf, StateDependsOn, files_after_actions, intent_name, intent_in_file, intent_of, is_staged, read_intent, recovered_files, files_after_intent, stage_name, state_of, files_after_staged_moves_from, files_without_names}
use Rattle.journal_core.specs.Kept.{RecoversTo}
use Rattle.journal_core.specs.Quiet.{StateIsUnchanged}
use Rattle.journal_core.specs.Staged.{IsCarryingOutActions, HasIntentFileNumberedAtLeastForFiles}
use Rattle.journal_core.proofs.Agree.{agree-without, agree-unstaged}
use Rattle.journal_intent.proofs.AtName.{put_name-at, put_name-off, drop_name-at, drop_name-off}
use Rattle.base_core.proofs.Undone.{read_may_be_left}
use Rattle.base_core.proofs.AtName.{name_cases, off_name}
use Rattle.journal_core.proofs.Acts.{IsReadActing, acting_once_synced, files-moved, state_same, still_on, sync_still}
use Rattle.journal_core.proofs.Changes.{one_change, synced_left}
use Rattle.journal_core.proofs.Chain.{Runs, run_begun, run_failed, run_called, run_done, step_now, step_called}
use Rattle.journal_core.proofs.History.{History}
use Rattle.journal_core.proofs.Images.{CrashLaws, old_or_new_by_maps, old_or_new_from_quiet, settled_by_maps}
use Rattle.journal_core.proofs.Lasting.{some_none}
use Rattle.journal_core.proofs.OneCall.{now_is}
use Rattle.journal_intent.specs.FreeNames.{AreFreeNames}
use Rattle.journal_core.proofs.Replayed.{IsProper, proper_of, move_if_present-off}
use Rattle.journal_intent.proofs.StageNames.{stage_names_apart, stage_name_no_intent}
use Rattle.journal_core.proofs.Waiting.{still_self}

-- ---- the state once an intent stands is that of its actions done

unstaged_intent : (names : List (List ℕ)) (k : ℕ) (F : Files) → AreFreeNames names → files_after_staged_moves_from k names F intent_name ≡ F intent_name
unstaged_intent [] k F free = refl
unstaged_intent (name ∷ names) k F free =
    unstaged_intent names (k + 1) _ free.1 ∙ move_if_present-off F (stage_name k) name (F (stage_name k)) intent_name (λ e. stage_name_no_intent k (sym e)) (λ e. free.0.no_intent (sym e))

module _ (F : Files) (intent : Intent) (bytes : List ℕ) (spells : read_intent bytes ≡ Some intent) (proper : IsProper intent) (absent : F intent_name ≡ None) where
  none_both : (b : Bool) (o : Option (List ℕ)) → o ≡ None → cond b None o ≡ None
  none_both true o none = refl
  none_both false o none = none

  gone : files_after_actions intent F intent_name ≡ None
  gone = unstaged_intent intent.writes 1 (files_without_names intent.removals F) proper.writes ∙ none_both (list_any (bytes_eq intent_name) intent.removals) (F intent_name) absent

  has : intent_of (put_name F intent_name bytes) ≡ Some intent
  has = ap intent_in_file (put_name-at F intent_name bytes intent_name refl) ∙ spells

  abbrev Off : List ℕ → Type 0
  Off q = q ≢ intent_name

  agrees : (q : List ℕ) → q ≢ intent_name → files_after_actions intent (put_name F intent_name bytes) q ≡ files_after_actions intent F q
  agrees q ne =
      agree-unstaged Off intent.writes 1 (files_without_names intent.removals (put_name F intent_name bytes)) (files_without_names intent.removals F) (λ j from below. stage_name_no_intent j)
      (agree-without Off intent.removals (put_name F intent_name bytes) F (λ r off. put_name-off F intent_name bytes r off)) q ne

  pub recovered_published : recovered_files (put_name F intent_name bytes) ≡ files_after_actions intent F
  recovered_published i q = (ap (λ o. files_after_intent o (put_name F intent_name bytes) q) has ∙ by (name_cases q intent_name)) i
    where
      by : (q ≡ intent_name) ⊎ (bytes_eq q intent_name ≡ false) → drop_name (files_after_actions intent (put_name F intent_name bytes)) intent_name q ≡ files_after_actions intent F q
      by (inl is) = drop_name-at (files_after_actions intent (put_name F intent_name bytes)) intent_name q is ∙ sym (ap (files_after_actions intent F) is ∙ gone)
      by (inr off) = drop_name-off (files_after_actions intent (put_name F intent_name bytes)) intent_name q (off_name q intent_name off) ∙ agrees q (off_name q intent_name off)

  pub state_published : (ignored : List ℕ → Bool) → state_of ignored (put_name F intent_name bytes) ≡ state_of ignored (files_after_actions intent F)
  state_published ignored = state_same ignored (put_name F intent_name bytes) (files_after_actions intent F) (recovered_published ∙ sym (ap (λ o. files_after_intent o (files_after_actions intent F)) (ap intent_in_file gone)))

-- ---- the rename

some_same : (a c : ℕ) → Some a ≡ Some c → a ≡ c
some_same a c e = cc

staged_shown : (a c : Bool) → a ≡ true → (a || c) ≡ false → ⊥
staged_shown true c t f = cc (f, f)
staged_shown false c t f = cc (t, t)

module _ (intent : Intent) (base : Files) (made : ℕ) (v : TreeState) (ready : IsReadyToPublish intent base made v) where
  abbrev pub entered_map : NameMap
  entered_map = move_name v.names (stage_name 0) intent_name ready.number

  proper : IsProper intent
  proper = proper_of intent ready.free ready.few

  none : base intent_name ≡ None
  none = sym (ready.reads intent_name (λ e. stage_name_no_intent 0 (sym e))) ∙ ap (bytes_of_file_number v.files) ready.absent

  files : files_under_map v entered_map ≡ put_name base intent_name ready.bytes
  files i q = (ap (λ (F : Files). F q) (files-moved v (stage_name 0) intent_name ready.number) ∙ ap (λ (f : File). move_name (files_of v) (stage_name 0) intent_name f.bytes q) ready.holds
      ∙ ap (cond (bytes_eq q intent_name) (Some ready.bytes)) (by (name_cases q (stage_name 0)))) i
    where
      by : (q ≡ stage_name 0) ⊎ (bytes_eq q (stage_name 0) ≡ false) → drop_name (files_of v) (stage_name 0) q ≡ base q
      by (inl is) = drop_name-at (files_of v) (stage_name 0) q is ∙ sym (ap base is ∙ ready.no_staged_intent)
      by (inr off) = drop_name-off (files_of v) (stage_name 0) q (off_name q (stage_name 0) off) ∙ ready.reads q (off_name q (stage_name 0) off)

  located : intent_of (files_under_map v entered_map) ≡ Some intent
  located = ap intent_of files ∙ has base intent ready.bytes ready.spells proper none

  -- all actions are left
  acting_at : IsReadActing (stage_with_actions_done intent 0) (files_after_actions intent base) (with_newer_name_map v entered_map)
  acting_at = record {
    located = located;
    reads = ap recovered_files files ∙ recovered_published base intent ready.bytes ready.spells proper none;
    done = record { removed = λ i name below is. absurd (omega (arith, below)); moved = λ k from until. absurd (omega (arith, from, until)) };
  }

  entered_at : (n : ℕ) × (entered_map intent_name ≡ Some n) × (made ≤ n)
  entered_at = (ready.number, put_name-at (drop_name v.names (stage_name 0)) intent_name ready.number intent_name refl, ready.later)

  module _ (ignored : List ℕ → Bool) (one : v.older ≡ []) (is_durable : IsDurable (StateDependsOn ignored) v) where
    state_new : state_of ignored (files_under_map v entered_map) ≡ state_of ignored (files_after_actions intent base)
    state_new = ap (state_of ignored) files ∙ state_published base intent ready.bytes ready.spells proper none ignored

    synced_number : (v.files ready.number).synced ≡ true
    synced_number = ap (λ (f : File). f.synced) ready.holds

    off_intent : (q : List ℕ) (n : ℕ) → q ≢ intent_name → q ≢ stage_name 0 → entered_map q ≡ Some n → v.names q ≡ Some n
    off_intent q n ni n0 is = sym (put_name-off (drop_name v.names (stage_name 0)) intent_name ready.number q ni ∙ drop_name-off v.names (stage_name 0) q n0) ∙ is

    at_intent : (q : List ℕ) (n : ℕ) → q ≡ intent_name → entered_map q ≡ Some n → (v.files n).synced ≡ true
    at_intent q n at is =
        let e : ready.number ≡ n = some_same ready.number n (sym (put_name-at (drop_name v.names (stage_name 0)) intent_name ready.number q at) ∙ is) in
        subst (λ k. (v.files k).synced ≡ true) e synced_number

    place_synced : (q : List ℕ) (n : ℕ) → IsStagedNameOf (Some intent) q → entered_map q ≡ Some n → (v.files n).synced ≡ true
    place_synced q n (k, from, within, is) at =
        let few = ready.few in
        ready.synced k n from within (sym (ap v.names is) ∙ off_intent q n (λ e. stage_name_no_intent k (sym is ∙ e))
        (λ e. absurd (let same = stage_names_apart k 0 (omega (arith, within, few)) (omega arith) (sym is ∙ e) in omega (arith, from, same))) at)

    shown_synced : (q : List ℕ) (n : ℕ) → (is_staged q || ignored q) ≡ false → (bytes_eq q intent_name ≡ false) → entered_map q ≡ Some n → (v.files n).synced ≡ true
    shown_synced q n shown off is =
        is_durable.each v.names (read_may_be_left v) q n (inr (inl shown)) (off_intent q n (off_name q intent_name off) (λ e. staged_shown (is_staged q) (ignored q) (ap is_staged e) shown) is)

    synced : (q : List ℕ) (n : ℕ) → StateDependsOn ignored (files_under_map v entered_map) q → entered_map q ≡ Some n → (v.files n).synced ≡ true
    synced q n (inl at) is = at_intent q n at is
    synced q n (inr (inl shown)) is = ⊎_elim (λ at. at_intent q n at is) (λ off. shown_synced q n shown off is) (name_cases q intent_name)
    synced q n (inr (inr place)) is = place_synced q n (subst (λ o. IsStagedNameOf o q) located place) is

    durable_at : IsDurable (StateDependsOn ignored) (with_newer_name_map v entered_map)
    durable_at = record { each = each }
      where
        each : (x : NameMap) → IsCrashMap (with_newer_name_map v entered_map) x → (q : List ℕ) (n : ℕ) → StateDependsOn ignored (files_under_map v x) q → x q ≡ Some n → (v.files n).synced ≡ true
        each x left q n rests at = ⊎_elim
            (λ new. synced q n (subst (λ (y : NameMap). StateDependsOn ignored (files_under_map v y) q) new rests) (sym (ap (λ (y : NameMap). y q) new) ∙ at))
            (λ old. is_durable.each x (subst (IsCrashMap v) (sym old) (read_may_be_left v)) q n rests at)
            (one_change v entered_map one x left)

-- ---- the calls

module _ (laws : CrashLaws) (ignored : List ℕ → Bool) (intent : Intent) (base : Files) (made : ℕ) (start : TreeState) where
  abbrev G : Files
  G = files_after_actions intent base

  abbrev P : TreeState → Type 0
  P = IsCommitting ignored G made start

  pub record Before (w : TreeState) : Type 0 where
    ready : IsReadyToPublish intent base made w
    is_unchanged : StateIsUnchanged ignored start w

  pub before_moment : (w : TreeState) → Before w → P w
  before_moment w b = record { is_durable = b.is_unchanged.is_durable; old_or_new = old_or_new_from_quiet ignored start G w b.is_unchanged.quiet; unpublished = λ _. b.is_unchanged.quiet; made = b.is_unchanged.made }

  -- and no crash undoes a change of names
  pub record Once (w : TreeState) : Type 0 where
    before : Before w
    one : w.older ≡ []

  before_synced : (w : TreeState) → Before w → Once (after_sync_names w)
  before_synced w b = record { before = record { ready = ready_synced; is_unchanged = still_on ignored start w (after_sync_names w) b.is_unchanged (sync_still ignored w b.is_unchanged.is_durable) }; one = refl }
    where
      ready_synced : IsReadyToPublish intent base made (after_sync_names w)
      ready_synced = record {
        absent = b.ready.absent;
        no_staged_intent = b.ready.no_staged_intent;
        reads = b.ready.reads;
        bytes = b.ready.bytes;
        spells = b.ready.spells;
        number = b.ready.number;
        later = b.ready.later;
        there = b.ready.there;
        holds = b.ready.holds;
        synced = b.ready.synced;
        few = b.ready.few;
        free = b.ready.free;
      }

  pub record Behind (w : TreeState) : Type 0 where
    is_durable : IsDurable (StateDependsOn ignored) w
    moment : P w
    state : state_of ignored (files_of w) ≡ state_of ignored G
    publishes : HasIntentFileNumberedAtLeastForFiles ignored G made w

  behind_at : (v : TreeState) (b : Before v) → v.older ≡ [] → Behind (with_newer_name_map v (entered_map intent base made v b.ready))
  behind_at v b one =
      let is_durable = durable_at intent base made v b.ready ignored one b.is_unchanged.is_durable in
      let new_state = state_new intent base made v b.ready ignored one b.is_unchanged.is_durable in
      let (n, at, later) = entered_at intent base made v b.ready in
      let publishes : HasIntentFileNumberedAtLeastForFiles ignored G made (with_newer_name_map v (entered_map intent base made v b.ready)) = (n, at, later, new_state) in
      record {
        is_durable = is_durable;
        moment = record {
          is_durable = is_durable;
          old_or_new = old_or_new_by_maps laws ignored start G (with_newer_name_map v (entered_map intent base made v b.ready)) is_durable (states new_state);
          unpublished = λ unled. absurd (unled publishes);
          made = b.is_unchanged.made;
        };
        state = new_state;
        publishes = publishes;
      }
    where
      states : state_of ignored (files_under_map v (entered_map intent base made v b.ready)) ≡ state_of ignored G → (x : NameMap) → IsCrashMap (with_newer_name_map v (entered_map intent base made v b.ready)) x
          → ((was : Files) × IsCrashImage start was × (state_of ignored (files_under_map v x) ≡ state_of ignored was)) ⊎ (state_of ignored (files_under_map v x) ≡ state_of ignored G)
      states is x left = ⊎_elim
          (λ new. inr (ap (λ (y : NameMap). state_of ignored (files_under_map v y)) new ∙ is))
          (λ old. inl (b.is_unchanged.quiet (files_under_map v x) (laws.left v x (subst (IsCrashMap v) (sym old) (read_may_be_left v)))))
          (one_change v (entered_map intent base made v b.ready) one x left)

  after_renamed_at : (v : TreeState) → Once v → Behind (after_rename (stage_name 0) intent_name v)
  after_renamed_at v b = subst (λ o. Behind (with_file_moved (stage_name 0) intent_name v o)) (sym b.before.ready.there) (behind_at v b.before b.one)

  after_renamed : (place name : List ℕ) → place ≡ stage_name 0 → name ≡ intent_name → (v : TreeState) → Once v → Behind (after_rename place name v)
  after_renamed place name place_is name_is v b =
      subst (λ (p : List ℕ). Behind (after_rename p name v)) (sym place_is) (subst (λ (n : List ℕ). Behind (after_rename (stage_name 0) n v)) (sym name_is) (after_renamed_at v b))

  after_synced : (w : TreeState) → Behind w → Behind (after_sync_names w)
  after_synced w b =
      let is_durable : IsDurable (StateDependsOn ignored) (after_sync_names w) = record { each = λ m among q n rests is. b.is_durable.each m (synced_left w m among) q n rests is } in
      record {
        is_durable = is_durable;
        moment = record {
          is_durable = is_durable;
          old_or_new = λ image (m, among, by). b.moment.old_or_new image (m, synced_left w m among, by);
          unpublished = λ unled. absurd (unled b.publishes);
          made = b.moment.made;
        };
        state = b.state;
        publishes = b.publishes;
      }

  entered : (w : TreeState) → Behind w → HasCommittedIntent ignored G made (after_sync_names w)
  entered w b = record { settled = settled_by_maps laws ignored G (after_sync_names w) (after_synced w b).is_durable only; publishes = b.publishes }
    where
      only : (m : NameMap) → IsCrashMap (after_sync_names w) m → state_of ignored (files_under_map w m) ≡ state_of ignored G
      only m is = ap (λ (y : NameMap). state_of ignored (files_under_map w y)) is ∙ b.state

  module _ (old rest : History) (is : old ≡ start ∷ rest) (is_durable : IsDurable (StateDependsOn ignored) start) (ready : IsReadyToPublish intent base made start) where
    pub begun : Runs P Before old old
    begun = run_begun P Before old start rest is (record { ready = ready; is_unchanged = still_self ignored start is_durable })

    module _ {T E : Type 0} (h new : History) where
      pub first_failed : (e : E) → ChangesHistory {T = T} IsAlwaysAllowed after_sync_names unchanged_after_failed_call old new (Err e) → Since P old new
      first_failed e moves = run_failed P Before old old new e begun moves (λ v may b. before_moment v b)

      pub first_done : (x : T) → ChangesHistory {E = E} IsAlwaysAllowed after_sync_names unchanged_after_failed_call old new (Ok x) → Runs P Once old new
      first_done x moves = run_done P Before Once old old new x begun moves (λ v b. before_moment v b.before) before_synced

    module _ {T E : Type 0} (place name : List ℕ) (place_is : place ≡ stage_name 0) (name_is : name ≡ intent_name) (h new : History) where
      pub rename_failed : (e : E) → Runs P Once old h → ChangesHistory {T = T} (CanRename place name) (after_rename place name) (after_rename place name) h new (Err e) → Since P old new
      rename_failed e runs moves = run_failed P Once old h new e runs moves (λ v may b. (after_renamed place name place_is name_is v b).moment)

      pub rename_done : (x : T) → Runs P Once old h → ChangesHistory {E = E} (CanRename place name) (after_rename place name) (after_rename place name) h new (Ok x) → Runs P Behind old new
      rename_done x runs moves = run_done P Once Behind old h new x runs moves (λ v b. b.moment) (after_renamed place name place_is name_is)

    module _ {T E : Type 0} (h new : History) where
      pub last_called : (r : Result T E) → Runs P Behind old h → ChangesHistory IsAlwaysAllowed after_sync_names unchanged_after_failed_call h new r → Since P old new
      last_called r runs moves = run_called P Behind old h new r runs moves (λ v b. (after_synced v b).moment) (λ v may b. b.moment)

      pub last_entered : (r : Result T E) → Runs P Behind old h → ChangesHistory IsAlwaysAllowed after_sync_names unchanged_after_failed_call h new r → OnOk r (HoldsNow new (HasCommittedIntent ignored G made))
      last_entered r runs moves = step_called Behind (HasCommittedIntent ignored G made) new r h runs.now moves entered

-- what is read behind them
module _ (intent : Intent) (base : Files) (made : ℕ) (start : TreeState) (ready : IsReadyToPublish intent base made start) where
  ready_synced : (v : TreeState) → IsReadyToPublish intent base made v → IsReadyToPublish intent base made (after_sync_names v)
  ready_synced v b = record {
    absent = b.absent;
    no_staged_intent = b.no_staged_intent;
    reads = b.reads;
    bytes = b.bytes;
    spells = b.spells;
    number = b.number;
    later = b.later;
    there = b.there;
    holds = b.holds;
    synced = b.synced;
    few = b.few;
    free = b.free;
  }

  abbrev After : TreeState → Type 0
  After = IsReadActing (stage_with_actions_done intent 0) (files_after_actions intent base)

  acting_renamed : (place name : List ℕ) → place ≡ stage_name 0 → name ≡ intent_name → (v : TreeState) → IsReadyToPublish intent base made v → After (after_rename place name v)
  acting_renamed place name place_is name_is v b =
      subst (λ (p : List ℕ). After (after_rename p name v)) (sym place_is) (subst (λ (n : List ℕ). After (after_rename (stage_name 0) n v)) (sym name_is)
      (subst (λ o. After (with_file_moved (stage_name 0) intent_name v o)) (sym b.there) (acting_at intent base made v b)))

  pub last_acting : {T E : Type 0} (place name : List ℕ) → place ≡ stage_name 0 → name ≡ intent_name → (old rest h k new : History) → old ≡ start ∷ rest → (x y : T) (r : Result T E)
      → ChangesHistory {E = E} IsAlwaysAllowed after_sync_names unchanged_after_failed_call old h (Ok x) → ChangesHistory {E = E} (CanRename place name) (after_rename place name) (after_rename place name) h k (Ok y) → ChangesHistory IsAlwaysAllowed after_sync_names unchanged_after_failed_call k new r
      → OnOk r (HoldsNow new (IsCarryingOutActions (stage_with_actions_done intent 0) (files_after_actions intent base)))
  last_acting place name place_is name_is old rest h k new is x y r first second last =
      let a = step_now (IsReadyToPublish intent base made) (IsReadyToPublish intent base made) h x old (now_is old start rest (IsReadyToPublish intent base made) is ready) first ready_synced in
      let b = step_now (IsReadyToPublish intent base made) After k y h a second (acting_renamed place name place_is name_is) in
      step_called After (IsCarryingOutActions (stage_with_actions_done intent 0) (files_after_actions intent base)) new r k b last (acting_once_synced (stage_with_actions_done intent 0) (files_after_actions intent base))

  -- ---- at each moment at which the intent is read

  abbrev R : TreeState → Type 0
  R w = IsSome (w.names intent_name) → RecoversTo (files_after_actions intent base) w

  unread_moment : (v : TreeState) → IsReadyToPublish intent base made v → R v
  unread_moment v b some = absurd (some_none (v.names intent_name) b.absent some)

  module _ (old rest : History) (is : old ≡ start ∷ rest) where
    read_begun : Runs R (IsReadyToPublish intent base made) old old
    read_begun = run_begun R (IsReadyToPublish intent base made) old start rest is ready

    module _ {T E : Type 0} (h new : History) where
      pub read_sync_failed : (e : E) → ChangesHistory {T = T} IsAlwaysAllowed after_sync_names unchanged_after_failed_call old new (Err e) → Since R old new
      read_sync_failed e moves = run_failed R (IsReadyToPublish intent base made) old old new e read_begun moves (λ v may b. unread_moment v b)

      pub read_synced : (x : T) → ChangesHistory {E = E} IsAlwaysAllowed after_sync_names unchanged_after_failed_call old new (Ok x) → Runs R (IsReadyToPublish intent base made) old new
      read_synced x moves = run_done R (IsReadyToPublish intent base made) (IsReadyToPublish intent base made) old old new x read_begun moves unread_moment ready_synced

      pub read_last : (r : Result T E) → Runs R After old h → ChangesHistory IsAlwaysAllowed after_sync_names unchanged_after_failed_call h new r → Since R old new
      read_last r runs moves = run_called R After old h new r runs moves (λ v a some. a.reads) (λ v may a some. a.reads)

    module _ {T E : Type 0} (place name : List ℕ) (place_is : place ≡ stage_name 0) (name_is : name ≡ intent_name) (h new : History) where
      pub read_rename_failed : (e : E) → Runs R (IsReadyToPublish intent base made) old h → ChangesHistory {T = T} (CanRename place name) (after_rename place name) (after_rename place name) h new (Err e) → Since R old new
      read_rename_failed e runs moves = run_failed R (IsReadyToPublish intent base made) old h new e runs moves (λ v may b some. (acting_renamed place name place_is name_is v b).reads)

      pub read_renamed : (x : T) → Runs R (IsReadyToPublish intent base made) old h → ChangesHistory {E = E} (CanRename place name) (after_rename place name) (after_rename place name) h new (Ok x) → Runs R After old new
      read_renamed x runs moves = run_done R (IsReadyToPublish intent base made) After old h new x runs moves (λ v a some. a.reads) (acting_renamed place name place_is name_is)
