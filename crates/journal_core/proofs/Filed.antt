-- The calls that make and fill a waiting file, clause by clause.
use Rattle.std.proofs.Common.{◌≡◌, ℕ, zero, suc, ◌+◌, ◌<◌, ◌^◌, Bool, true, false, List, [], ◌∷◌, ◌++◌, length, None, Some, Result, Ok, Err, OnOk, refl, ap, subst, ◌∙◌, arith}
use Rattle.std.specs.List.{All}
use Rattle.base_core.specs.Files.{Files}
use Rattle.base_core.specs.Tree.{TreeState, after_create, after_append, after_failed_append, after_sync, after_sync_names, files_of, unchanged_after_failed_call, IsAlwaysAllowed, CanCreate, HasName, IsWellFormed}
use Rattle.base_core.specs.Calls.{IfObservable, HoldsNow, ChangesHistory, IsCounted}
use Rattle.base_core.specs.Faults.{Counts}
use Rattle.base_core.specs.Crash.{Since}
use Rattle.base_core.specs.Undone.{IsDurable}
use Rattle.journal_core.specs.Kept.{IsAbsentAfterEachCrash, KeepsFilesExcept}
use Rattle.journal_core.specs.Recovery.{Intent, StateDependsOn, intent_name, stage_name}
use Rattle.journal_core.specs.Quiet.{StateIsUnchanged}
use Rattle.journal_core.specs.Staged.{Staging, HasStagedContents, HasEmptyStageAndFreeJournalPaths}
use Rattle.journal_core.specs.Acting.{IsNextStagedName}
use Rattle.journal_core.proofs.Acts.{still_on, sync_still}
use Rattle.journal_core.proofs.Chain.{by_now, now_both}
use Rattle.journal_core.proofs.History.{History, none_since, now_since, observable_at, observable_map, on_observable, since_on, since_weaker}
use Rattle.journal_core.proofs.Leaving.{told_on}
use Rattle.journal_core.proofs.OneCall.{whole_now, now_is, one_called, now_done, one_proper}
use Rattle.journal_core.proofs.Waiting.{still_self}
use Rattle.journal_core.proofs.Between.{gone_once, gone_once_synced, staged_synced, name_of_next, still_begun, staged_begun, still_grown, staged_grown, staged_ended, has_name}
use Rattle.journal_core.proofs.Beside.{can_begin}
use Rattle.journal_core.proofs.Images.{CrashLaws}

-- as its parts give it
pub next_name : (name : List ℕ) (intent : Intent) (staged acted : ℕ) (is_open published : Bool) (stage : Staging) → record { intent = intent; staged = staged; is_open = is_open; published = published; acted = acted } ≡ stage
    → staged < length intent.writes → length intent.removals + length intent.writes < 2 ^ 63 → name ≡ stage_name (staged + 1) → IsNextStagedName name stage
next_name name intent staged acted is_open published stage view below few is =
    let here : IsNextStagedName name (record { intent = intent; staged = staged; is_open = is_open; published = published; acted = acted }) = record { is = is; few = omega (arith, below, few) } in
    subst (IsNextStagedName name) view here

module _ (name : List ℕ) (stage : Staging) (next : IsNextStagedName name stage) (contents : List (List ℕ)) (count : length contents ≡ stage.staged) where
  name_is : name ≡ stage_name (1 + length contents)
  name_is = name_of_next name stage.staged (length contents) next.is count

  few_is : 1 + length contents < 2 ^ 64
  few_is = let few = next.few in omega (arith, count, few)

-- a file may be begun: no crash restores an intent
abbrev pub IsToBegin : Staging → List (List ℕ) → Files → TreeState → Type 0
IsToBegin stage contents base v = HasStagedContents stage contents None base v × IsAbsentAfterEachCrash intent_name v

module _ (laws : CrashLaws) {T E : Type 0} (old new : History) (name : List ℕ) (stage : Staging) (next : IsNextStagedName name stage) (r : Result T E) where
  module _ (moves : ChangesHistory (CanCreate name) (after_create name) (after_create name) old new r) (whole : All IsWellFormed old) where
    pub begin_moments : IfObservable old (λ v. (ignored : List ℕ → Bool) (contents : List (List ℕ)) (base : Files) → IsDurable (StateDependsOn ignored) v → IsToBegin stage contents base v → Since (StateIsUnchanged ignored v) old new)
    begin_moments = on_observable old _ (λ v rest is ignored contents base is_durable (staged, gone).
        let is_unchanged = still_begun laws stage contents base v (few_is name stage next contents staged.count) staged gone (whole_now old v rest is whole) name (name_is name stage next contents staged.count) ignored is_durable in
        one_called old new v rest is (StateIsUnchanged ignored v) r moves is_unchanged (λ may. is_unchanged))

  pub begin_proper : (before now : Counts) → IsCounted (CanCreate name) old before now r
      → IfObservable old (λ v. (contents : List (List ℕ)) (base : Files) → HasStagedContents stage contents None base v → HasEmptyStageAndFreeJournalPaths base → now.misuses ≡ before.misuses)
  begin_proper before now counted = on_observable old _ (λ v rest is contents base staged room.
      one_proper old v rest is before now r counted (can_begin stage contents base v (few_is name stage next contents staged.count) staged name (name_is name stage next contents staged.count) room))

  module _ (piece : List ℕ) (moves : ChangesHistory (HasName name) (after_append name piece) (after_failed_append name) old new r) where
    pub append_moments : IfObservable old (λ v. (ignored : List ℕ → Bool) (contents : List (List ℕ)) (so_far : List ℕ) (base : Files) → IsDurable (StateDependsOn ignored) v → HasStagedContents stage contents (Some so_far) base v → Since (StateIsUnchanged ignored v) old new)
    append_moments = on_observable old _ (λ v rest is ignored contents so_far base is_durable staged.
        let few = few_is name stage next contents staged.count in
        let here = name_is name stage next contents staged.count in
        one_called old new v rest is (StateIsUnchanged ignored v) r moves
        (still_grown laws stage contents so_far base v few staged name here (λ f. record { bytes = f.bytes ++ piece; synced = false }) ignored is_durable)
        (λ may. still_grown laws stage contents so_far base v few staged name here (λ f. record { bytes = f.bytes; synced = false }) ignored is_durable))

  pub append_proper : (before now : Counts) → IsCounted (HasName name) old before now r
      → IfObservable old (λ v. (contents : List (List ℕ)) (so_far : List ℕ) (base : Files) → HasStagedContents stage contents (Some so_far) base v → now.misuses ≡ before.misuses)
  append_proper before now counted = on_observable old _ (λ v rest is contents so_far base staged.
      one_proper old v rest is before now r counted (has_name laws stage contents so_far base v (few_is name stage next contents staged.count) staged name (name_is name stage next contents staged.count)))

  module _ (moves : ChangesHistory (HasName name) (after_sync name) unchanged_after_failed_call old new r) where
    pub end_moments : IfObservable old (λ v. (ignored : List ℕ → Bool) (contents : List (List ℕ)) (so_far : List ℕ) (base : Files) → IsDurable (StateDependsOn ignored) v → HasStagedContents stage contents (Some so_far) base v → Since (StateIsUnchanged ignored v) old new)
    end_moments = on_observable old _ (λ v rest is ignored contents so_far base is_durable staged.
        one_called old new v rest is (StateIsUnchanged ignored v) r moves
        (still_grown laws stage contents so_far base v (few_is name stage next contents staged.count) staged name (name_is name stage next contents staged.count) (λ f. record { bytes = f.bytes; synced = true }) ignored is_durable)
        (λ may. still_self ignored v is_durable))

-- what an Ok tells
module _ (laws : CrashLaws) {T E : Type 0} (old new : History) (name : List ℕ) (stage now : Staging) (next : IsNextStagedName name stage) (x : T) where
  pub begin_staged : ChangesHistory {E = E} (CanCreate name) (after_create name) (after_create name) old new (Ok x) → All IsWellFormed old → now.staged ≡ stage.staged
      → IfObservable old (λ v. (contents : List (List ℕ)) (base : Files) → IsToBegin stage contents base v → HoldsNow new (HasStagedContents now contents (Some []) base))
  begin_staged moves whole same = on_observable old _ (λ v rest is contents base (staged, gone).
      now_done old new v rest is (HasStagedContents now contents (Some []) base) x moves
      (staged_begun laws stage contents base v (few_is name stage next contents staged.count) staged gone (whole_now old v rest is whole) name (name_is name stage next contents staged.count) now same))

  pub append_staged : (piece : List ℕ) → ChangesHistory {E = E} (HasName name) (after_append name piece) (after_failed_append name) old new (Ok x) → now.staged ≡ stage.staged
      → IfObservable old (λ v. (contents : List (List ℕ)) (so_far : List ℕ) (base : Files) → HasStagedContents stage contents (Some so_far) base v → HoldsNow new (HasStagedContents now contents (Some (so_far ++ piece)) base))
  append_staged piece moves same = on_observable old _ (λ v rest is contents so_far base staged.
      now_done old new v rest is (HasStagedContents now contents (Some (so_far ++ piece)) base) x moves
      (staged_grown laws stage contents so_far base v (few_is name stage next contents staged.count) staged name (name_is name stage next contents staged.count) now piece same))

  pub end_staged : ChangesHistory {E = E} (HasName name) (after_sync name) unchanged_after_failed_call old new (Ok x) → now.staged ≡ stage.staged + 1
      → IfObservable old (λ v. (contents : List (List ℕ)) (so_far : List ℕ) (base : Files) → HasStagedContents stage contents (Some so_far) base v → HoldsNow new (HasStagedContents now (contents ++ so_far ∷ []) None base))
  end_staged moves more = on_observable old _ (λ v rest is contents so_far base staged.
      now_done old new v rest is (HasStagedContents now (contents ++ so_far ∷ []) None base) x moves
      (staged_ended laws stage contents so_far base v (few_is name stage next contents staged.count) staged name (name_is name stage next contents staged.count) now more))

module _ (laws : CrashLaws) {T E : Type 0} (old new : History) (name : List ℕ) (stage : Staging) (next : IsNextStagedName name stage) where
  pub append_staged_called : (piece : List ℕ) (r : Result T E) → ChangesHistory (HasName name) (after_append name piece) (after_failed_append name) old new r
      → IfObservable old (λ v. (contents : List (List ℕ)) (so_far : List ℕ) (base : Files) → HasStagedContents stage contents (Some so_far) base v → OnOk r (HoldsNow new (HasStagedContents stage contents (Some (so_far ++ piece)) base)))
  append_staged_called piece (Ok x) moves = append_staged laws {E = E} old new name stage stage next x piece moves refl
  append_staged_called piece (Err e) moves = on_observable old _ (λ v rest is contents so_far base staged. tt)

-- ---- the names are synced before the first file

abbrev pub IsBegunLater : Staging → History → History → Type 0
IsBegunLater stage old h = IfObservable old (λ v. (contents : List (List ℕ)) (base : Files) → HasStagedContents stage contents None base v → HoldsNow h (IsToBegin stage contents base))

module _ {T E : Type 0} (stage : Staging) (old new : History) where
  pub first_moments : (r : Result T E) → ChangesHistory IsAlwaysAllowed after_sync_names unchanged_after_failed_call old new r → IfObservable old (λ v. (ignored : List ℕ → Bool) → IsDurable (StateDependsOn ignored) v → Since (StateIsUnchanged ignored v) old new)
  first_moments r moves = on_observable old _ (λ v rest is ignored is_durable. one_called old new v rest is (StateIsUnchanged ignored v) r moves (sync_still ignored v is_durable) (λ may. still_self ignored v is_durable))

  pub first_reads : (r : Result T E) → ChangesHistory IsAlwaysAllowed after_sync_names unchanged_after_failed_call old new r → IfObservable old (λ v. Since (λ w. files_of w ≡ files_of v) old new)
  first_reads r moves = on_observable old _ (λ v rest is. one_called old new v rest is (λ w. files_of w ≡ files_of v) r moves refl (λ may. refl))

  pub first_staged : (r : Result T E) → ChangesHistory IsAlwaysAllowed after_sync_names unchanged_after_failed_call old new r
      → IfObservable old (λ v. (contents : List (List ℕ)) (base : Files) → HasStagedContents stage contents None base v → OnOk r (HoldsNow new (IsToBegin stage contents base)))
  first_staged (Ok x) moves = on_observable old _ (λ v rest is contents base staged.
      now_done old new v rest is (IsToBegin stage contents base) x moves (staged_synced stage contents base v staged, gone_once_synced stage contents base v staged))
  first_staged (Err e) moves = on_observable old _ (λ v rest is contents base staged. tt)

  pub first_proper : (before now : Counts) (r : Result T E) → IsCounted IsAlwaysAllowed old before now r → IfObservable old (λ v. now.misuses ≡ before.misuses)
  first_proper before now r counted = on_observable old _ (λ v rest is. one_proper old v rest is before now r counted tt)

-- a later file needs no sync
pub later_moments : (old : History) → IfObservable old (λ v. (ignored : List ℕ → Bool) → IsDurable (StateDependsOn ignored) v → Since (StateIsUnchanged ignored v) old old)
later_moments old = on_observable old _ (λ v rest is ignored is_durable. none_since (StateIsUnchanged ignored v) old)

pub later_reads : (old : History) → IfObservable old (λ v. Since (λ w. files_of w ≡ files_of v) old old)
later_reads old = on_observable old _ (λ v rest is. none_since (λ w. files_of w ≡ files_of v) old)

pub later_staged : (stage : Staging) (old : History) → (stage.staged ≡ 0 → ⊥) → IsBegunLater stage old old
later_staged stage old some = on_observable old _ (λ v rest is contents base staged. now_is old v rest (IsToBegin stage contents base) is (staged, at stage.staged refl contents base v staged))
  where
    at : (n : ℕ) → stage.staged ≡ n → (contents : List (List ℕ)) (base : Files) (v : TreeState) → HasStagedContents stage contents None base v → IsAbsentAfterEachCrash intent_name v
    at zero none contents base v staged = absurd (some none)
    at (suc k) more contents base v staged = gone_once stage contents base v k staged more

pub later_proper : (old : History) (a b : ℕ) → b ≡ a → IfObservable old (λ v. b ≡ a)
later_proper old a b same = on_observable old _ (λ v rest is. same)

pub first_others : (these : List ℕ → Type 0) (old mid : History) → IfObservable old (λ v. Since (λ w. files_of w ≡ files_of v) old mid) → IfObservable old (λ v. Since (KeepsFilesExcept these v) old mid)
first_others these old mid told = observable_map old _ _ told (λ v t. since_weaker (λ w. files_of w ≡ files_of v) (KeepsFilesExcept these v) old mid (λ w same q off. ap (λ (F : Files). F q) same) t)

-- both calls
module _ (stage : Staging) (old mid new : History) where
  pub both_moments : IfObservable old (λ v. (ignored : List ℕ → Bool) → IsDurable (StateDependsOn ignored) v → Since (StateIsUnchanged ignored v) old mid) → IsBegunLater stage old mid
      → IfObservable mid (λ u. (ignored : List ℕ → Bool) (contents : List (List ℕ)) (base : Files) → IsDurable (StateDependsOn ignored) u → IsToBegin stage contents base u → Since (StateIsUnchanged ignored u) mid new)
      → IfObservable old (λ v. (ignored : List ℕ → Bool) (contents : List (List ℕ)) (base : Files) → IsDurable (StateDependsOn ignored) v → HasStagedContents stage contents None base v → Since (StateIsUnchanged ignored v) old new)
  both_moments first ready then = on_observable old _ (λ v rest is ignored contents base is_durable staged.
      let since = observable_at old v rest is (λ u. (Y : List ℕ → Bool) → IsDurable (StateDependsOn Y) u → Since (StateIsUnchanged Y u) old mid) first ignored is_durable in
      let begins = observable_at old v rest is (λ u. (cs : List (List ℕ)) (F : Files) → HasStagedContents stage cs None F u → HoldsNow mid (IsToBegin stage cs F)) ready contents base staged in
      since_on (StateIsUnchanged ignored v) old mid new since
      (by_now mid (λ u. StateIsUnchanged ignored v u × IsToBegin stage contents base u) (Since (StateIsUnchanged ignored v) mid new)
      (now_both mid (StateIsUnchanged ignored v) (IsToBegin stage contents base) (now_since (StateIsUnchanged ignored v) old mid v rest is (still_self ignored v is_durable) since) begins)
      (observable_map mid _ (λ u. StateIsUnchanged ignored v u × IsToBegin stage contents base u → Since (StateIsUnchanged ignored v) mid new) then (λ u t q.
      since_weaker (StateIsUnchanged ignored u) (StateIsUnchanged ignored v) mid new (λ w. still_on ignored v u w q.0) (t ignored contents base q.0.is_durable q.1)))))

  pub both_staged : (now : Staging) → IsBegunLater stage old mid → IfObservable mid (λ u. (contents : List (List ℕ)) (base : Files) → IsToBegin stage contents base u → HoldsNow new (HasStagedContents now contents (Some []) base))
      → IfObservable old (λ v. (contents : List (List ℕ)) (base : Files) → HasStagedContents stage contents None base v → HoldsNow new (HasStagedContents now contents (Some []) base))
  both_staged now ready then = observable_map old _ _ ready (λ v t contents base staged.
      by_now mid (IsToBegin stage contents base) (HoldsNow new (HasStagedContents now contents (Some []) base)) (t contents base staged)
      (observable_map mid _ (λ u. IsToBegin stage contents base u → HoldsNow new (HasStagedContents now contents (Some []) base)) then (λ u f. f contents base)))

  pub both_proper : (a b c : ℕ) → IfObservable old (λ v. b ≡ a) → IsBegunLater stage old mid → IfObservable mid (λ u. (contents : List (List ℕ)) (base : Files) → HasStagedContents stage contents None base u → HasEmptyStageAndFreeJournalPaths base → c ≡ b)
      → IfObservable old (λ v. (contents : List (List ℕ)) (base : Files) → HasStagedContents stage contents None base v → HasEmptyStageAndFreeJournalPaths base → c ≡ a)
  both_proper a b c first ready then = on_observable old _ (λ v rest is contents base staged room.
      by_now mid (IsToBegin stage contents base) (c ≡ b)
      (observable_at old v rest is (λ u. (cs : List (List ℕ)) (F : Files) → HasStagedContents stage cs None F u → HoldsNow mid (IsToBegin stage cs F)) ready contents base staged)
      (observable_map mid _ (λ u. IsToBegin stage contents base u → c ≡ b) then (λ u f q. f contents base q.0 room))
      ∙ observable_at old v rest is (λ u. b ≡ a) first)

  pub both_others : (these : List ℕ → Type 0) → IfObservable old (λ v. Since (λ w. files_of w ≡ files_of v) old mid) → IfObservable mid (λ u. Since (KeepsFilesExcept these u) mid new) → IfObservable old (λ v. Since (KeepsFilesExcept these v) old new)
  both_others these first then = told_on (KeepsFilesExcept these) (λ v q off. refl) (λ a b c x y q off. y q off ∙ x q off) old mid new (first_others these old mid first) then

pub first_only : (stage : Staging) (old mid : History) → IfObservable old (λ v. (ignored : List ℕ → Bool) → IsDurable (StateDependsOn ignored) v → Since (StateIsUnchanged ignored v) old mid)
    → IfObservable old (λ v. (ignored : List ℕ → Bool) (contents : List (List ℕ)) (base : Files) → IsDurable (StateDependsOn ignored) v → HasStagedContents stage contents None base v → Since (StateIsUnchanged ignored v) old mid)
first_only stage old mid told = observable_map old _ _ told (λ v t ignored contents base is_durable staged. t ignored is_durable)

pub first_only_proper : (stage : Staging) (old : History) (a b : ℕ) → IfObservable old (λ v. b ≡ a) → IfObservable old (λ v. (contents : List (List ℕ)) (base : Files) → HasStagedContents stage contents None base v → HasEmptyStageAndFreeJournalPaths base → b ≡ a)
first_only_proper stage old a b told = observable_map old _ _ told (λ v same contents base staged room. same)
