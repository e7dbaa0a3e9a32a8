-- What the intent of a file says is done.
use Rattle.std.proofs.Common.{◌≡◌, ◌≤◌, ℕ, Bool, List, [], Some, None, IsSome, refl, sym, ap, subst, ◌∙◌, arith}
use Rattle.base_core.specs.Files.{Files}
use Rattle.base_core.specs.Tree.{TreeState, files_of}
use Rattle.base_core.specs.Calls.{IfObservable, HoldsNow}
use Rattle.base_core.specs.Crash.{Since}
use Rattle.base_core.specs.Undone.{IsDurable}
use Rattle.journal_core.specs.Recovering.{IsIntentReplayed}
use Rattle.journal_core.specs.Recovery.{EachCrashLeavesStateOf, StateDependsOn, intent_name, intent_in_file, read_intent, recovered_files}
use Rattle.journal_core.specs.Kept.{RecoversTo}
use Rattle.journal_core.specs.Quiet.{StateIsUnchanged}
use Rattle.journal_core.specs.Staged.{Staging, AreIntentAndStagedPathsFree, AreJournalPathsFreeAfterReplayIfAny, IsCarryingOutActions, action_count}
use Rattle.journal_core.specs.Acting.{IsDuringActions}
use Rattle.journal_core.proofs.Acts.{read_acting}
use Rattle.journal_core.proofs.Chain.{by_now}
use Rattle.journal_core.proofs.History.{History, now_map, on_observable, observable_at, observable_map}
use Rattle.journal_core.proofs.Rowing.{Rowed, reads_called, rowed_called, rowed_done, rowed_start}

pub none_acted : (stage : Staging) → stage.acted ≡ 0 → stage.acted ≤ action_count stage.intent
none_acted stage none = omega (arith, none)

pub acting_found : (stage : Staging) (file : List ℕ) (v : TreeState) → files_of v intent_name ≡ Some file → v.older ≡ [] → read_intent file ≡ Some stage.intent → stage.acted ≡ 0 → IsCarryingOutActions stage (recovered_files (files_of v)) v
acting_found stage file v there one spells none = read_acting stage (recovered_files (files_of v)) v one (record {
  located = ap intent_in_file there ∙ spells;
  reads = refl;
  done = record { removed = λ i name below is. absurd (omega (arith, below, none)); moved = λ k from until. absurd (omega (arith, from, until, none)) };
})

module _ (first next : Staging) (file : List ℕ) (spells : read_intent file ≡ Some first.intent) (none : first.acted ≡ 0) (old mid : History) where
  abbrev Moments : Type 0
  Moments = IfObservable old (λ v. (ignored : List ℕ → Bool) (files : Files) → IsDurable (StateDependsOn ignored) v → IsCarryingOutActions first files v → Since (StateIsUnchanged ignored v) old mid)

  abbrev Acting : Type 0
  Acting = IfObservable old (λ v. (files : Files) → IsCarryingOutActions first files v → HoldsNow mid (IsCarryingOutActions next files))

  rowed : Moments → Acting → Rowed first next old mid
  rowed moments acting = rowed_done first first old old mid next acting (rowed_start first old) moments

  pub act_failed : Moments → IfObservable old (λ v. (ignored : List ℕ → Bool) → IsDurable (StateDependsOn ignored) v → files_of v intent_name ≡ Some file → v.older ≡ [] → Since (StateIsUnchanged ignored v) old mid)
  act_failed moments = observable_map old _ _ moments (λ v m ignored is_durable there one. m ignored (recovered_files (files_of v)) is_durable (acting_found first file v there one spells none))

  abbrev Reads : Type 0
  Reads = IfObservable old (λ v. (files : Files) → IsCarryingOutActions first files v → Since (RecoversTo files) old mid)

  pub act_reads : Reads → IfObservable old (λ v. files_of v intent_name ≡ Some file → v.older ≡ [] → Since (RecoversTo (recovered_files (files_of v))) old mid)
  act_reads reads = observable_map old _ _ reads (λ v t there one. t (recovered_files (files_of v)) (acting_found first file v there one spells none))

  pub act_proper : (a b : ℕ) → IfObservable old (λ v. (files : Files) → IsCarryingOutActions first files v → AreIntentAndStagedPathsFree files → b ≡ a)
      → IfObservable old (λ v. files_of v intent_name ≡ Some file → v.older ≡ [] → AreJournalPathsFreeAfterReplayIfAny (files_of v) → b ≡ a)
  act_proper a b proper = observable_map old _ _ proper (λ v p there one room. let at = acting_found first file v there one spells none in p (recovered_files (files_of v)) at (room (subst IsSome (sym at.located) refl)))

  module _ (new : History) where
    pub end_moments : Moments → Acting → IfObservable mid (λ u. (ignored : List ℕ → Bool) (files : Files) → IsDurable (StateDependsOn ignored) u → IsCarryingOutActions next files u → Since (StateIsUnchanged ignored u) mid new)
        → IfObservable old (λ v. (ignored : List ℕ → Bool) → IsDurable (StateDependsOn ignored) v → files_of v intent_name ≡ Some file → v.older ≡ [] → Since (StateIsUnchanged ignored v) old new)
    end_moments moments acting last =
        observable_map old _ _ (rowed_called first next old mid new (rowed moments acting) last) (λ v m ignored is_durable there one. m ignored (recovered_files (files_of v)) is_durable (acting_found first file v there one spells none))

    pub end_reads : Reads → Acting → IfObservable mid (λ u. (files : Files) → IsCarryingOutActions next files u → Since (RecoversTo files) mid new)
        → IfObservable old (λ v. files_of v intent_name ≡ Some file → v.older ≡ [] → Since (RecoversTo (recovered_files (files_of v))) old new)
    end_reads reads acting last = observable_map old _ _ (reads_called first next old mid new acting reads last) (λ v t there one. t (recovered_files (files_of v)) (acting_found first file v there one spells none))

    pub end_settled : Moments → Acting → IfObservable mid (λ u. (ignored : List ℕ → Bool) (files : Files) → IsDurable (StateDependsOn ignored) u → IsCarryingOutActions next files u → HoldsNow new (EachCrashLeavesStateOf ignored files))
        → IfObservable old (λ v. (ignored : List ℕ → Bool) → IsDurable (StateDependsOn ignored) v → files_of v intent_name ≡ Some file → v.older ≡ [] → HoldsNow new (EachCrashLeavesStateOf ignored (recovered_files (files_of v))))
    end_settled moments acting last = observable_map old _ _ (rowed moments acting) (λ v r ignored is_durable there one.
        let runs = r ignored (recovered_files (files_of v)) is_durable (acting_found first file v there one spells none) in
        by_now mid (IsDuringActions ignored (recovered_files (files_of v)) next v) (HoldsNow new (EachCrashLeavesStateOf ignored (recovered_files (files_of v)))) runs.now
        (observable_map mid _ (λ u. IsDuringActions ignored (recovered_files (files_of v)) next v u → HoldsNow new (EachCrashLeavesStateOf ignored (recovered_files (files_of v)))) last (λ u t goes. t ignored (recovered_files (files_of v)) goes.is_unchanged.is_durable goes.acting)))

    pub end_replayed : Acting → IfObservable mid (λ u. (files : Files) → IsCarryingOutActions next files u → HoldsNow new (λ w. (files_of w ≡ files) × (w.names intent_name ≡ None)))
        → IfObservable old (λ v. files_of v intent_name ≡ Some file → v.older ≡ [] → HoldsNow new (IsIntentReplayed v))
    end_replayed acting last = observable_map old _ _ acting (λ v a there one.
        now_map new (λ w. (files_of w ≡ recovered_files (files_of v)) × (w.names intent_name ≡ None)) (IsIntentReplayed v)
        (by_now mid (IsCarryingOutActions next (recovered_files (files_of v))) (HoldsNow new (λ w. (files_of w ≡ recovered_files (files_of v)) × (w.names intent_name ≡ None))) (a (recovered_files (files_of v)) (acting_found first file v there one spells none))
        (observable_map mid _ (λ u. IsCarryingOutActions next (recovered_files (files_of v)) u → HoldsNow new (λ w. (files_of w ≡ recovered_files (files_of v)) × (w.names intent_name ≡ None))) last (λ u t. t (recovered_files (files_of v)))))
        (λ w q. record { reads = q.0; absent = q.1 }))

    pub end_proper : (a b c : ℕ) → Acting → IfObservable old (λ v. (files : Files) → IsCarryingOutActions first files v → AreIntentAndStagedPathsFree files → b ≡ a) → IfObservable mid (λ u. c ≡ b)
        → IfObservable old (λ v. files_of v intent_name ≡ Some file → v.older ≡ [] → AreJournalPathsFreeAfterReplayIfAny (files_of v) → c ≡ a)
    end_proper a b c acting proper last = on_observable old _ (λ v rest is there one room.
        let at = acting_found first file v there one spells none in
        by_now mid (IsCarryingOutActions next (recovered_files (files_of v))) (c ≡ b) (observable_at old v rest is (λ u. (F : Files) → IsCarryingOutActions first F u → HoldsNow mid (IsCarryingOutActions next F)) acting (recovered_files (files_of v)) at)
        (observable_map mid _ (λ u. IsCarryingOutActions next (recovered_files (files_of v)) u → c ≡ b) last (λ u t q. t))
        ∙ observable_at old v rest is (λ u. (F : Files) → IsCarryingOutActions first F u → AreIntentAndStagedPathsFree F → b ≡ a) proper (recovered_files (files_of v)) at (room (subst IsSome (sym at.located) refl)))
