-- The publishing of an intent and all its actions behind it lead to the new files.
use Rattle.std.proofs.Common.{◌≡◌, ◌⊎◌, ℕ, ◌≤◌, Bool, List, ◌∷◌, [], ◌++◌, None, Some, Option, IsSome, Result, Ok, Err, OnOk, length, refl, sym, subst, ◌∙◌}
use Rattle.base_core.specs.Calls.{HoldsNow, IfObservable}
use Rattle.base_core.specs.Crash.{Since}
use Rattle.base_core.specs.Undone.{IsDurable}
use Rattle.base_core.specs.Files.{Files}
use Rattle.base_core.specs.Restart.{EachMoment, SinceGivenEarlierAddedMoments}
use Rattle.base_core.specs.Tree.{TreeState, File, bytes_of_file_number, files_of}
use Rattle.journal_core.specs.Kept.{ReadsOldOrNewBytesOutsideJournal, IsAbsentAfterEachCrash, KeepsFilesExcept, KeepsCrashMapsExcept, KeepsOldOrNewBytes, RecoversTo, NamesOutsideJournalAreDurable}
use Rattle.journal_core.specs.Quiet.{StateIsUnchanged}
use Rattle.journal_core.specs.Recovery.{Intent, EachCrashLeavesStateOf, StateDependsOn, files_after_actions, intent_in_file, intent_name, stage_name}
use Rattle.journal_core.specs.Staged.{AreIntentAndStagedPathsFree, HasMomentOfIntentFileNumberedAtLeastForFiles, IsCarryingOutActions, HasNoStagedNames, IsOldUntilCommit, HasStagedContents, IsHistoryThatPublishesIntentForFiles, Staging}
use Rattle.journal_core.proofs.Between.{no_intent_read}
use Rattle.journal_core.proofs.Chain.{by_now, now_both}
use Rattle.journal_core.proofs.History.{History, now_map, now_since, observable_at, observable_map, on_observable, since_on, since_weaker}
use Rattle.journal_core.proofs.Lasting.{some_none}
use Rattle.journal_core.proofs.OnTheWay.{way_after}
use Rattle.journal_core.specs.journal_intent.FreeNames.{HasFreeNamesAndUnrepeatedWrites}
use Rattle.journal_commit.specs.StageRun.{IsStateDuringChangeToNewFromOld, IsRunOfStagedChange, IsStagedChangeComplete, IsRunThatStagedAndBeganFiles, NamesOutsideJournalAreDurableIfNoIntent}
use Rattle.journal_commit.proofs.Empty.{change_empties}
use Rattle.journal_commit.proofs.Joins.{now_of, since_and}
use Rattle.journal_commit.proofs.Waits.{none_entering, shown_last}
use Rattle.journal_commit.proofs.Ways.{G, Lasts, Reads, Waits, Way, entered_bytes, append_file_to, read_entering, run_led, same_files, still_now}

way_now : (ignored : List ℕ → Bool) (files : Files) (u : TreeState) (added old : History) → HasMomentOfIntentFileNumberedAtLeastForFiles ignored files u.made added → EachMoment (IsOldUntilCommit ignored files u) added → HoldsNow (added ++ old) (λ x. IsDurable (StateDependsOn ignored) x × (u.made ≤ x.made))
way_now ignored files u [] old published each = absurd published
way_now ignored files u (w ∷ added) old published each = (each.0.is_durable, each.0.made)

names_some : (files : ℕ → File) (o : Option ℕ) (intent : Intent) → intent_in_file (bytes_of_file_number files o) ≡ Some intent → IsSome o
names_some files None intent is = absurd (cc (is))
names_some files (Some n) intent is = refl

module _ (stage : Staging) (contents : List (List ℕ)) (v : TreeState) (first mid : History) (s : IsRunThatStagedAndBeganFiles stage contents None v first mid) (all : stage.staged ≡ length stage.intent.writes) (free : HasFreeNamesAndUnrepeatedWrites stage.intent) where
  abbrev pub H : Files
  H = G stage contents v first mid s

  abbrev pub W : TreeState → Type 0
  W = Waits stage contents v first mid s

  empty : (u : TreeState) → W u → HasNoStagedNames H
  empty u waits = change_empties stage.intent contents (files_of v) free (waits.count ∙ all) s.empty

  same : (u : TreeState) → W u → files_after_actions stage.intent (files_of u) ≡ H
  same = same_files stage contents v first mid s

  -- ---- the publishing, whatever it answers

  module _ (now : History) where
    abbrev pub IsCommittedFor : Type 0
    IsCommittedFor = IfObservable mid (λ u. (ignored : List ℕ → Bool) (cs : List (List ℕ)) (base : Files) → IsDurable (StateDependsOn ignored) u → HasStagedContents stage cs None base u → SinceGivenEarlierAddedMoments (IsOldUntilCommit ignored (files_after_actions stage.intent (files_of u)) u) mid now)

    publish_way : IsCommittedFor → Way stage contents v first mid s now
    publish_way moments = observable_map mid _ (λ u. (ignored : List ℕ → Bool) → IsDurable (StateDependsOn ignored) u → W u → SinceGivenEarlierAddedMoments (IsOldUntilCommit ignored H u) mid now) moments (λ u t ignored is_durable waits.
        subst (λ (F : Files). SinceGivenEarlierAddedMoments (IsOldUntilCommit ignored F u) mid now) (same u waits) (t ignored contents (files_of v) is_durable waits))

    abbrev pub PublishReads : Type 0
    PublishReads = IfObservable mid (λ u. (cs : List (List ℕ)) (base : Files) → HasStagedContents stage cs None base u → Since (λ w. IsSome (w.names intent_name) → RecoversTo (files_after_actions stage.intent (files_of u)) w) mid now)

    abbrev pub PublishOthers : Type 0
    PublishOthers = IfObservable mid (λ u. Since (KeepsFilesExcept (λ q. (q ≡ intent_name) ⊎ (q ≡ stage_name 0)) u) mid now)

    abbrev pub PublishMaps : Type 0
    PublishMaps = IfObservable mid (λ u. Since (KeepsCrashMapsExcept (intent_name ∷ stage_name 0 ∷ []) u) mid now)

    both : (h : History) (A B C : TreeState → Type 0) → IfObservable h A → IfObservable h B → ((u : TreeState) → A u → B u → C u) → IfObservable h C
    both [] A B C a b f = tt
    both (u ∷ h) A B C a b f = f u a b

    publish_reads : PublishReads → PublishOthers → Reads stage contents v first mid s now
    publish_reads reads others =
        both mid _ _ (λ u. W u → Since (IsStateDuringChangeToNewFromOld H (files_of u)) mid now) reads others (λ u read keeps waits.
        let recovers = subst (λ (F : Files). Since (λ w. IsSome (w.names intent_name) → RecoversTo F w) mid now) (same u waits) (read contents (files_of v) waits) in
        since_weaker (λ w. KeepsFilesExcept (λ q. (q ≡ intent_name) ⊎ (q ≡ stage_name 0)) u w × (IsSome (w.names intent_name) → RecoversTo H w)) (IsStateDuringChangeToNewFromOld H (files_of u)) mid now
        (λ w q. read_entering H (empty u waits) u w (no_intent_read stage contents (files_of v) u waits) q.0 q.1)
        (since_and (KeepsFilesExcept (λ q. (q ≡ intent_name) ⊎ (q ≡ stage_name 0)) u) (λ w. IsSome (w.names intent_name) → RecoversTo H w) mid now keeps recovers))

    publish_lasts : PublishMaps → Lasts stage contents v first mid s now
    publish_lasts maps = observable_map mid _ (λ u. W u → NamesOutsideJournalAreDurable u → Since NamesOutsideJournalAreDurableIfNoIntent mid now) maps (λ u t waits last.
        since_weaker (KeepsCrashMapsExcept (intent_name ∷ stage_name 0 ∷ []) u) NamesOutsideJournalAreDurableIfNoIntent mid now (λ w keeps none. shown_last (intent_name ∷ stage_name 0 ∷ []) none_entering u w keeps last) t)

    pub publish_run : IsCommittedFor → PublishReads → PublishOthers → PublishMaps → IsRunOfStagedChange H v first now
    publish_run moments reads others maps = run_led stage contents v first mid s now (publish_way moments) (publish_reads reads others) (publish_lasts maps)

    -- ---- and all actions behind it

    module _ (next : Staging)
        (published : IfObservable mid (λ u. (ignored : List ℕ → Bool) (cs : List (List ℕ)) (base : Files) → IsDurable (StateDependsOn ignored) u → HasStagedContents stage cs None base u → IsHistoryThatPublishesIntentForFiles ignored (files_after_actions stage.intent (files_of u)) u mid now))
        (settled : IfObservable mid (λ u. (ignored : List ℕ → Bool) (cs : List (List ℕ)) (base : Files) → IsDurable (StateDependsOn ignored) u → HasStagedContents stage cs None base u → HoldsNow now (EachCrashLeavesStateOf ignored (files_after_actions stage.intent (files_of u)))))
        (acting : IfObservable mid (λ u. (cs : List (List ℕ)) (base : Files) → HasStagedContents stage cs None base u → HoldsNow now (IsCarryingOutActions next (files_after_actions stage.intent (files_of u)))))
        (new : History) where
      abbrev Acts : TreeState → Type 0
      Acts = IsCarryingOutActions next H

      acts_now : HoldsNow now Acts
      acts_now =
          by_now mid W (HoldsNow now Acts) s.waiting
          (observable_map mid _ (λ u. W u → HoldsNow now Acts) acting (λ u t waits. subst (λ (F : Files). HoldsNow now (IsCarryingOutActions next F)) (same u waits) (t contents (files_of v) waits)))

      abbrev pub EnactMoments : Type 0
      EnactMoments = IfObservable now (λ x. (ignored : List ℕ → Bool) (files : Files) → IsDurable (StateDependsOn ignored) x → IsCarryingOutActions next files x → Since (StateIsUnchanged ignored x) now new)

      -- behind the publishing
      module _ (ignored : List ℕ → Bool) (u : TreeState) (waits : W u) (by_publish : IsHistoryThatPublishesIntentForFiles ignored H u mid now) (here : HoldsNow now (EachCrashLeavesStateOf ignored H)) where
        abbrev Here : TreeState → Type 0
        Here x = (IsDurable (StateDependsOn ignored) x × (u.made ≤ x.made)) × (EachCrashLeavesStateOf ignored H x × Acts x)

        all_here : HoldsNow now Here
        all_here =
            now_both now _ _
            (subst (λ (l : History). HoldsNow l (λ x. IsDurable (StateDependsOn ignored) x × (u.made ≤ x.made))) (sym by_publish.is) (way_now ignored H u by_publish.added mid by_publish.published by_publish.each))
            (now_both now (EachCrashLeavesStateOf ignored H) Acts here acts_now)

        enact_way_at : EnactMoments → SinceGivenEarlierAddedMoments (IsOldUntilCommit ignored H u) mid new
        enact_way_at moments = by_now now Here (SinceGivenEarlierAddedMoments (IsOldUntilCommit ignored H u) mid new) all_here
            (observable_map now _ (λ x. Here x → SinceGivenEarlierAddedMoments (IsOldUntilCommit ignored H u) mid new) moments (λ x t at. way_after ignored H u x at.1.0 at.0.1 mid now new by_publish (t ignored H at.0.0 at.1.1)))

        durable_at : HoldsNow now (IsDurable (StateDependsOn ignored))
        durable_at = now_map now Here (IsDurable (StateDependsOn ignored)) all_here (λ x at. at.0.0)

      published_at : (ignored : List ℕ → Bool) (u : TreeState) → W u → IsHistoryThatPublishesIntentForFiles ignored (files_after_actions stage.intent (files_of u)) u mid now → IsHistoryThatPublishesIntentForFiles ignored H u mid now
      published_at ignored u waits by_publish = subst (λ (F : Files). IsHistoryThatPublishesIntentForFiles ignored F u mid now) (same u waits) by_publish

      settled_at : (ignored : List ℕ → Bool) (u : TreeState) → W u → HoldsNow now (EachCrashLeavesStateOf ignored (files_after_actions stage.intent (files_of u))) → HoldsNow now (EachCrashLeavesStateOf ignored H)
      settled_at ignored u waits here = subst (λ (F : Files). HoldsNow now (EachCrashLeavesStateOf ignored F)) (same u waits) here

      -- if the paths are free among the new files, the actions are no misuse
      pub enact_proper : (a b : ℕ) → IfObservable now (λ x. (files : Files) → IsCarryingOutActions next files x → AreIntentAndStagedPathsFree files → b ≡ a) → AreIntentAndStagedPathsFree H → b ≡ a
      enact_proper a b told room = by_now now Acts (b ≡ a) acts_now (observable_map now _ (λ x. Acts x → b ≡ a) told (λ x k acts. k H acts room))

      enact_way : EnactMoments → Way stage contents v first mid s new
      enact_way moments = both mid _ _ (λ u. (ignored : List ℕ → Bool) → IsDurable (StateDependsOn ignored) u → W u → SinceGivenEarlierAddedMoments (IsOldUntilCommit ignored H u) mid new) published settled (λ u p h ignored is_durable waits.
          enact_way_at ignored u waits (published_at ignored u waits (p ignored contents (files_of v) is_durable waits)) (settled_at ignored u waits (h ignored contents (files_of v) is_durable waits)) moments)

      abbrev pub EnactReads : Type 0
      EnactReads = IfObservable now (λ x. (files : Files) → IsCarryingOutActions next files x → Since (RecoversTo files) now new)

      abbrev pub EnactBytes : Type 0
      EnactBytes = IfObservable now (λ x. (files : Files) → IsCarryingOutActions next files x → KeepsOldOrNewBytes files x now new)

      enact_reads : PublishReads → PublishOthers → EnactReads → EnactBytes → Reads stage contents v first mid s new
      enact_reads reads others more bytes = on_observable mid (λ u. W u → Since (IsStateDuringChangeToNewFromOld H (files_of u)) mid new) (λ u rest is waits.
          let Keeps = KeepsFilesExcept (λ q. (q ≡ intent_name) ⊎ (q ≡ stage_name 0)) u in
          let keeps = observable_at mid u rest is (λ x. Since (KeepsFilesExcept (λ q. (q ≡ intent_name) ⊎ (q ≡ stage_name 0)) x) mid now) others in
          since_on (IsStateDuringChangeToNewFromOld H (files_of u)) mid now new
          (observable_at mid u rest is (λ x. W x → Since (IsStateDuringChangeToNewFromOld H (files_of x)) mid now) (publish_reads reads others) waits)
          (by_now now (λ x. Acts x × Keeps x) (Since (IsStateDuringChangeToNewFromOld H (files_of u)) now new) (now_both now Acts Keeps acts_now (now_since Keeps mid now u rest is (λ q off. refl) keeps))
          (both now _ _ (λ x. Acts x × Keeps x → Since (IsStateDuringChangeToNewFromOld H (files_of u)) now new) more bytes (λ x k b q.
          since_weaker (λ w. RecoversTo H w × ReadsOldOrNewBytesOutsideJournal (files_of u) H w) (IsStateDuringChangeToNewFromOld H (files_of u)) now new (λ w r. append_file_to H (files_of u) (empty u waits) w r.0 r.1)
          (since_and (RecoversTo H) (ReadsOldOrNewBytesOutsideJournal (files_of u) H) now new (k H q.0) (b H q.0 (files_of u) (entered_bytes H u x q.1)))))))

      abbrev pub EnactLasts : Type 0
      EnactLasts = IfObservable now (λ x. IsSome (x.names intent_name) → Since NamesOutsideJournalAreDurableIfNoIntent now new)

      has_intent : (x : TreeState) → Acts x → IsSome (x.names intent_name)
      has_intent x acts = names_some x.files (x.names intent_name) stage_intent acts.located
        where
          stage_intent : Intent
          stage_intent = next.intent

      more_lasts : EnactLasts → Since NamesOutsideJournalAreDurableIfNoIntent now new
      more_lasts more = by_now now Acts (Since NamesOutsideJournalAreDurableIfNoIntent now new) acts_now (observable_map now _ (λ x. Acts x → Since NamesOutsideJournalAreDurableIfNoIntent now new) more (λ x k acts. k (has_intent x acts)))

      enact_lasts : PublishMaps → EnactLasts → Lasts stage contents v first mid s new
      enact_lasts maps more = observable_map mid _ (λ u. W u → NamesOutsideJournalAreDurable u → Since NamesOutsideJournalAreDurableIfNoIntent mid new) (publish_lasts maps) (λ u t waits last. since_on NamesOutsideJournalAreDurableIfNoIntent mid now new (t waits last) (more_lasts more))

      pub enact_run : PublishReads → PublishOthers → PublishMaps → EnactMoments → EnactReads → EnactBytes → EnactLasts → IsRunOfStagedChange H v first new
      enact_run reads others maps moments more bytes lasts = run_led stage contents v first mid s new (enact_way moments) (enact_reads reads others more bytes) (enact_lasts maps lasts)

      -- ---- and its end

      -- at the end no intent is read, so the names last
      end_lasts : EnactLasts → HoldsNow new (λ w. (files_of w ≡ H) × (w.names intent_name ≡ None)) → HoldsNow new NamesOutsideJournalAreDurable
      end_lasts lasts reads = now_map new (λ w. NamesOutsideJournalAreDurableIfNoIntent w × ((files_of w ≡ H) × (w.names intent_name ≡ None))) NamesOutsideJournalAreDurable
          (now_both new NamesOutsideJournalAreDurableIfNoIntent (λ w. (files_of w ≡ H) × (w.names intent_name ≡ None)) (by now acts_now (more_lasts lasts)) reads) (λ w q. q.0 q.1.1)
        where
          by : (h : History) → HoldsNow h Acts → Since NamesOutsideJournalAreDurableIfNoIntent h new → HoldsNow new NamesOutsideJournalAreDurableIfNoIntent
          by [] acts since = absurd acts
          by (x ∷ h) acts since = now_since NamesOutsideJournalAreDurableIfNoIntent (x ∷ h) new x h refl (λ none. absurd (some_none (x.names intent_name) none (has_intent x acts))) since

      module _ {T E : Type 0} where
        abbrev pub EnactFiles : Result T E → Type 0
        EnactFiles r = IfObservable now (λ x. (files : Files) → IsCarryingOutActions next files x → OnOk r (HoldsNow new (λ w. (files_of w ≡ files) × (w.names intent_name ≡ None))))

        abbrev pub EnactSettled : Result T E → Type 0
        EnactSettled r = IfObservable now (λ x. (ignored : List ℕ → Bool) (files : Files) → IsDurable (StateDependsOn ignored) x → IsCarryingOutActions next files x → OnOk r (HoldsNow new (EachCrashLeavesStateOf ignored files)))

        end_files : (r : Result T E) → EnactFiles r → OnOk r (HoldsNow new (λ w. (files_of w ≡ H) × (w.names intent_name ≡ None)))
        end_files r files = by_now now Acts (OnOk r (HoldsNow new (λ w. (files_of w ≡ H) × (w.names intent_name ≡ None)))) acts_now
            (observable_map now _ (λ x. Acts x → OnOk r (HoldsNow new (λ w. (files_of w ≡ H) × (w.names intent_name ≡ None)))) files (λ x k acts. k H acts))

        end_settled : (r : Result T E) → EnactSettled r → (ignored : List ℕ → Bool) → IsDurable (StateDependsOn ignored) v → OnOk r (HoldsNow new (EachCrashLeavesStateOf ignored H))
        end_settled r ends ignored is_durable =
            by_now now (λ x. IsDurable (StateDependsOn ignored) x × Acts x) (OnOk r (HoldsNow new (EachCrashLeavesStateOf ignored H))) (now_both now (IsDurable (StateDependsOn ignored)) Acts durable_now acts_now)
            (observable_map now _ (λ x. IsDurable (StateDependsOn ignored) x × Acts x → OnOk r (HoldsNow new (EachCrashLeavesStateOf ignored H))) ends (λ x k q. k ignored H q.0 q.1))
          where
            durable_now : HoldsNow now (IsDurable (StateDependsOn ignored))
            durable_now =
                by_now mid (λ u. StateIsUnchanged ignored v u × W u) (HoldsNow now (IsDurable (StateDependsOn ignored))) (now_both mid (StateIsUnchanged ignored v) W (still_now stage contents v first mid s new ignored is_durable) s.waiting)
                (both mid _ _ (λ u. StateIsUnchanged ignored v u × W u → HoldsNow now (IsDurable (StateDependsOn ignored))) published settled (λ u p h q.
                durable_at ignored u q.1 (published_at ignored u q.1 (p ignored contents (files_of v) q.0.is_durable q.1)) (settled_at ignored u q.1 (h ignored contents (files_of v) q.0.is_durable q.1))))

        pub enact_done : (r : Result T E) → EnactLasts → EnactFiles r → EnactSettled r → OnOk r (IfObservable new (IsAbsentAfterEachCrash intent_name)) → OnOk r (IsStagedChangeComplete H v new)
        enact_done r lasts files ends gone = by r (end_files r files) (end_settled r ends) gone
          where
            by : (x : Result T E) → OnOk x (HoldsNow new (λ w. (files_of w ≡ H) × (w.names intent_name ≡ None))) → ((ignored : List ℕ → Bool) → IsDurable (StateDependsOn ignored) v → OnOk x (HoldsNow new (EachCrashLeavesStateOf ignored H)))
                → OnOk x (IfObservable new (IsAbsentAfterEachCrash intent_name)) → OnOk x (IsStagedChangeComplete H v new)
            by (Ok x) reads settles none = record {
              reads = reads;
              settled = settles;
              last = end_lasts lasts reads;
              gone = now_of new (λ w. (files_of w ≡ H) × (w.names intent_name ≡ None)) (IsAbsentAfterEachCrash intent_name) reads none;
            }
            by (Err e) reads settles none = tt
