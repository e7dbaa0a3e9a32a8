-- Where files came to wait, the moments behind them lead to the new files.
use Rattle.std.proofs.Common.{◌≡◌, ◌⊎◌, inl, inr, ⊎_elim, ℕ, Bool, List, ◌∷◌, [], ◌++◌, None, refl, sym, ap, subst, ◌∙◌, append_assoc}
use Rattle.std.proofs.Common.{IsSome, Option, Some, true, false, cond}
use Rattle.base_core.specs.Calls.{HoldsNow, IfObservable}
use Rattle.base_core.specs.Crash.{Since}
use Rattle.base_core.specs.Undone.{IsDurable}
use Rattle.base_core.specs.Files.{Files}
use Rattle.base_core.specs.Restart.{EachMoment, SinceGivenEarlierAddedMoments}
use Rattle.base_core.specs.Tree.{TreeState, bytes_of_file_number, files_of}
use Rattle.base_core.proofs.AtName.{name_cases, off_name}
use Rattle.journal_core.specs.Kept.{ReadsOldOrNewBytesOutsideJournal, IsJournalName, KeepsFilesExcept, RecoversTo, NamesOutsideJournalAreDurable}
use Rattle.journal_core.specs.Quiet.{StateIsUnchanged}
use Rattle.journal_core.specs.Recovery.{StateDependsOn, files_after_actions, intent_name, is_staged, recovered_files, stage_name}
use Rattle.journal_core.specs.Staged.{HasNoStagedNames, IsOldUntilCommit, HasStagedContents, Staging, unstaged_files, files_with_staged}
use Rattle.journal_core.proofs.Chain.{by_now, now_both}
use Rattle.journal_core.proofs.History.{History, observable_map, since_on, since_weaker}
use Rattle.journal_core.proofs.OnTheWay.{way_before}
use Rattle.journal_core.proofs.Published.{since_by, still_on_the_way}
use Rattle.journal_core.proofs.Waiting.{still_self}
use Rattle.journal_core.proofs.Cleaned.{none_recovered}
use Rattle.journal_core.proofs.journal_intent.StageNames.{stage_name_staged}
use Rattle.journal_commit.specs.StageRun.{HasSameFilesExceptStaged, IsStateDuringChangeToNewFromOld, IsRunOfStagedChange, IsRunThatStagedAndBeganFiles, IsStagingRun, NamesOutsideJournalAreDurableIfNoIntent}
use Rattle.journal_commit.proofs.Joins.{so_far_now}
use Rattle.journal_commit.proofs.Waits.{shown_off}

-- ---- moments with those before them

module _ (ignored : List ℕ → Bool) (G : Files) (v u : TreeState) (is_unchanged : StateIsUnchanged ignored v u) where
  each_before : (added first : History) → EachMoment (IsOldUntilCommit ignored G u) added → EachMoment (IsOldUntilCommit ignored G v) first → EachMoment (IsOldUntilCommit ignored G v) (added ++ first)
  each_before [] first each so_far = so_far
  each_before (w ∷ added) first each so_far = (way_before ignored G v u w added first is_unchanged each.0, each_before added first each.1 so_far)

  pub way_from : (first mid new : History) → SinceGivenEarlierAddedMoments (IsOldUntilCommit ignored G v) first mid → SinceGivenEarlierAddedMoments (IsOldUntilCommit ignored G u) mid new → SinceGivenEarlierAddedMoments (IsOldUntilCommit ignored G v) first new
  way_from first mid new before then = record {
    added = then.added ++ before.added;
    is = then.is ∙ ap (λ (l : History). then.added ++ l) before.is ∙ sym (append_assoc then.added before.added first);
    each = each_before then.added before.added then.each before.each;
  }

pub still_way : (ignored : List ℕ → Bool) (G : Files) (v : TreeState) (old new : History) → Since (StateIsUnchanged ignored v) old new → SinceGivenEarlierAddedMoments (IsOldUntilCommit ignored G v) old new
still_way ignored G v old new since = since_by (IsOldUntilCommit ignored G v) old new (since_weaker (StateIsUnchanged ignored v) (λ w. (earlier : History) → IsOldUntilCommit ignored G v earlier w) old new (still_on_the_way ignored G v) since)

-- what only stages leads to any files
pub staging_leads : (G : Files) (v : TreeState) (first now : History) → IsStagingRun v first now → IsRunOfStagedChange G v first now
staging_leads G v first now run = record {
  moments = λ ignored is_durable. still_way ignored G v first now (run.moments ignored is_durable);
  reads = since_weaker (HasSameFilesExceptStaged (files_of v)) (IsStateDuringChangeToNewFromOld G (files_of v)) first now (λ w reads. inl reads) run.reads;
  last = λ last. since_weaker NamesOutsideJournalAreDurable NamesOutsideJournalAreDurableIfNoIntent first now (λ w lasts none. lasts) (run.last last);
}

-- ---- what is read

emptied_at : (G : Files) → HasNoStagedNames G → (w : TreeState) → RecoversTo G w → unstaged_files (files_of w) ≡ G
emptied_at G empty w recovers i q = by (is_staged q) refl i
  where
    by : (b : Bool) → is_staged q ≡ b → unstaged_files (files_of w) q ≡ G q
    by true is = ap (λ b. cond b None (recovered_files (files_of w) q)) is ∙ sym (empty q is)
    by false is = ap (λ b. cond b None (recovered_files (files_of w) q)) is ∙ ap (λ (F : Files). F q) recovers

-- the intent is read and leads to the files, or they are read
pub append_file_to : (G old : Files) → HasNoStagedNames G → (w : TreeState) → RecoversTo G w → ReadsOldOrNewBytesOutsideJournal old G w → IsStateDuringChangeToNewFromOld G old w
append_file_to G old empty w recovers bytes = by (w.names intent_name) refl
  where
    by : (o : Option ℕ) → w.names intent_name ≡ o → IsStateDuringChangeToNewFromOld G old w
    by None none = inr (inr (sym (none_recovered w none) ∙ recovers))
    by (Some n) some = inr (inl (record { intent = subst IsSome (sym some) refl; leads = emptied_at G empty w recovers; bytes = bytes }))

Committing : List ℕ → Type 0
Committing q = (q ≡ intent_name) ⊎ (q ≡ stage_name 0)

pub entered_bytes : (G : Files) (u w : TreeState) → KeepsFilesExcept (λ q. (q ≡ intent_name) ⊎ (q ≡ stage_name 0)) u w → ReadsOldOrNewBytesOutsideJournal (files_of u) G w
entered_bytes G u w keeps q shown = inl (keeps q (λ either. shown (⊎_elim (λ intent. inl intent) (λ place. inr (ap is_staged place ∙ stage_name_staged 0)) either)))

-- at a moment at which the intent moves to its name
pub read_entering : (G : Files) → HasNoStagedNames G → (u w : TreeState) → files_of u intent_name ≡ None → KeepsFilesExcept (λ q. (q ≡ intent_name) ⊎ (q ≡ stage_name 0)) u w → (IsSome (w.names intent_name) → RecoversTo G w) → IsStateDuringChangeToNewFromOld G (files_of u) w
read_entering G empty u w unread keeps reads = by (w.names intent_name) refl
  where
    by : (o : Option ℕ) → w.names intent_name ≡ o → IsStateDuringChangeToNewFromOld G (files_of u) w
    by None none = inl (λ q shown. ⊎_elim
        (λ is. ap (files_of w) is ∙ ap (bytes_of_file_number w.files) none ∙ sym (ap (files_of u) is ∙ unread))
        (λ off. keeps q (λ either. ⊎_elim (off_name q intent_name off) (shown_off (stage_name 0) q refl shown) either))
        (name_cases q intent_name))
    by (Some n) some =
        let has = subst IsSome (sym some) refl in
        inr (inl (record { intent = has; leads = emptied_at G empty w (reads has); bytes = entered_bytes G u w keeps }))

pub read_from : (G old : Files) (u w : TreeState) → HasSameFilesExceptStaged old u → IsStateDuringChangeToNewFromOld G (files_of u) w → IsStateDuringChangeToNewFromOld G old w
read_from G old u w before (inl reads) = inl (λ q shown. reads q shown ∙ before q shown)
read_from G old u w before (inr (inl leads)) = inr (inl (record { intent = leads.intent; leads = leads.leads; bytes = bytes }))
  where
    unstaged : (q : List ℕ) → (IsJournalName q → ⊥) → (b : Bool) → is_staged q ≡ b → is_staged q ≡ false
    unstaged q shown true is = absurd (shown (inr is))
    unstaged q shown false is = is

    bytes : ReadsOldOrNewBytesOutsideJournal old G w
    bytes q shown = ⊎_elim (λ was. inl (was ∙ before q (unstaged q shown (is_staged q) refl))) (λ new. inr new) (leads.bytes q shown)
read_from G old u w before (inr (inr reads)) = inr (inr reads)

-- ---- a run

module _ (stage : Staging) (contents : List (List ℕ)) (v : TreeState) (first mid : History) (s : IsRunThatStagedAndBeganFiles stage contents None v first mid) where
  abbrev pub G : Files
  G = files_after_actions stage.intent (files_with_staged 1 contents (files_of v))

  abbrev pub Waits : TreeState → Type 0
  Waits = HasStagedContents stage contents None (files_of v)

  pub same_files : (u : TreeState) → Waits u → files_after_actions stage.intent (files_of u) ≡ G
  same_files u waits = ap (files_after_actions stage.intent) waits.reads

  module _ (new : History) where
    -- what calls behind the staging say of the state u before them
    abbrev pub Way : Type 0
    Way = IfObservable mid (λ u. (ignored : List ℕ → Bool) → IsDurable (StateDependsOn ignored) u → Waits u → SinceGivenEarlierAddedMoments (IsOldUntilCommit ignored G u) mid new)

    abbrev pub Reads : Type 0
    Reads = IfObservable mid (λ u. Waits u → Since (IsStateDuringChangeToNewFromOld G (files_of u)) mid new)

    abbrev pub Lasts : Type 0
    Lasts = IfObservable mid (λ u. Waits u → NamesOutsideJournalAreDurable u → Since NamesOutsideJournalAreDurableIfNoIntent mid new)

    pub still_now : (ignored : List ℕ → Bool) → IsDurable (StateDependsOn ignored) v → HoldsNow mid (StateIsUnchanged ignored v)
    still_now ignored is_durable = so_far_now (StateIsUnchanged ignored v) Waits v first mid mid s.start (still_self ignored v is_durable) (s.run.moments ignored is_durable)

    pub run_led : Way → Reads → Lasts → IsRunOfStagedChange G v first new
    run_led way reads lasts = record {
      moments = λ ignored is_durable.
          by_now mid (λ u. StateIsUnchanged ignored v u × Waits u) (SinceGivenEarlierAddedMoments (IsOldUntilCommit ignored G v) first new) (now_both mid (StateIsUnchanged ignored v) Waits (still_now ignored is_durable) s.waiting)
          (observable_map mid _ (λ u. StateIsUnchanged ignored v u × Waits u → SinceGivenEarlierAddedMoments (IsOldUntilCommit ignored G v) first new) way (λ u t q.
          way_from ignored G v u q.0 first mid new (still_way ignored G v first mid (s.run.moments ignored is_durable)) (t ignored q.0.is_durable q.1)));
      reads =
          since_on (IsStateDuringChangeToNewFromOld G (files_of v)) first mid new
          (since_weaker (HasSameFilesExceptStaged (files_of v)) (IsStateDuringChangeToNewFromOld G (files_of v)) first mid (λ w reads. inl reads) s.run.reads)
          (by_now mid (λ u. HasSameFilesExceptStaged (files_of v) u × Waits u) (Since (IsStateDuringChangeToNewFromOld G (files_of v)) mid new)
          (now_both mid (HasSameFilesExceptStaged (files_of v)) Waits (so_far_now (HasSameFilesExceptStaged (files_of v)) Waits v first mid mid s.start (λ q shown. refl) s.run.reads) s.waiting)
          (observable_map mid _ (λ u. HasSameFilesExceptStaged (files_of v) u × Waits u → Since (IsStateDuringChangeToNewFromOld G (files_of v)) mid new) reads (λ u t q.
          since_weaker (IsStateDuringChangeToNewFromOld G (files_of u)) (IsStateDuringChangeToNewFromOld G (files_of v)) mid new (λ w. read_from G (files_of v) u w q.0) (t q.1))));
      last = λ last.
          since_on NamesOutsideJournalAreDurableIfNoIntent first mid new
          (since_weaker NamesOutsideJournalAreDurable NamesOutsideJournalAreDurableIfNoIntent first mid (λ w lasts none. lasts) (s.run.last last))
          (by_now mid (λ u. NamesOutsideJournalAreDurable u × Waits u) (Since NamesOutsideJournalAreDurableIfNoIntent mid new)
          (now_both mid NamesOutsideJournalAreDurable Waits (so_far_now NamesOutsideJournalAreDurable Waits v first mid mid s.start last (s.run.last last)) s.waiting)
          (observable_map mid _ (λ u. NamesOutsideJournalAreDurable u × Waits u → Since NamesOutsideJournalAreDurableIfNoIntent mid new) lasts (λ u t q. t q.1 q.0)));
    }
