-- A root on which nothing is committed keeps its state, which is what a recovery leaves.
use Rattle.std.proofs.Common.{◌≡◌, inr, ℕ, Bool, true, false, cond, ◌||◌, List, [], ◌∷◌, None, Option, refl, sym, subst, ◌∙◌}
use Rattle.std.specs.Prelude.{IsTrue}
use Rattle.std.proofs.lemmas.Bool.{false≢true}
use Rattle.apk_front.specs.Moments.{IsDurableAndLeavesFiles}
use Rattle.base_core.specs.Files.{Files}
use Rattle.base_core.specs.Undone.{IsAfterCrash, IsDurable, IsCrashImage}
use Rattle.base_core.specs.Tree.{TreeState, files_of}
use Rattle.apk_front.specs.journal_core.Quiet.{EachCrashLeavesOld, StateIsUnchanged}
use Rattle.apk_front.specs.journal_core.Recovery.{StateDependsOn, is_staged, recovered_files, state_of}
use Rattle.apk_front.specs.journal_core.Staged.{unstaged_files}
use Rattle.apk_front.proofs.journal_core.More.{settled_more, states_same}
use Rattle.apk_front.specs.outcome.Effect.{do_arguments_neither_recover_nor_write}
use Rattle.apk_front.specs.outcome.Outcome.{Outcome}
use Rattle.apk_front.specs.outcome.Words.{IsOutcome}
use Rattle.apk_front.specs.words_core.Grammar.{command_of}
use Rattle.run_lists.specs.Events.{Crashes, Edits, Ends, RootEvent, ReachesWithoutCommitOrEdit, IsEventWithoutCommitOrEdit, IsRunWithoutCommit, IsTransition, Run, Stops, Touches, ignored_with_all_touched, touched_outside_journal_or_ignored}
use Rattle.run_lists.proofs.Facts.{AreMore, Ignored}
use Rattle.run_lists.proofs.Names.{reader_output, touched_more}
use Rattle.run_lists.proofs.OneRun.{idle_end, idle_moment, settled_on}
use Rattle.run_lists.proofs.Torn.{torn_durable, torn_quiet}
use Rattle.run_lists.proofs.Touched.{touch_durable, touch_quiet}

still_rest : (ignored : Ignored) (files : Files) (v w : TreeState) → IsDurableAndLeavesFiles ignored files v → StateIsUnchanged ignored v w → IsDurableAndLeavesFiles ignored files w
still_rest ignored files v w rest is_unchanged = record { is_durable = is_unchanged.is_durable; settled = settled_on ignored files v w rest.settled is_unchanged.quiet }

module _ (crash_durable : (ignored : Ignored) (v w : TreeState) → IsAfterCrash v w → IsDurable (StateDependsOn ignored) w) (crash_quiet : (ignored : Ignored) (v w : TreeState) → IsAfterCrash v w → EachCrashLeavesOld ignored v w) where
  led_idle : (start : Ignored) (files : Files) (earlier : List RootEvent) (v : TreeState) (event : RootEvent) (w : TreeState) → IsDurableAndLeavesFiles (ignored_with_all_touched earlier start) files v → IsEventWithoutCommitOrEdit v event → IsTransition v event w → IsDurableAndLeavesFiles (ignored_with_all_touched (event ∷ earlier) start) files w
  led_idle start files earlier v (Ends run) w rest idle (is_run, ends) =
      let names = ignored_with_all_touched earlier start in
      still_rest names files v w rest (idle_end names v run is_run rest.is_durable idle w ends)
  led_idle start files earlier v (Stops run) w rest idle (is_run, (m, moment, torn)) =
      let names = ignored_with_all_touched earlier start in
      let is_unchanged = idle_moment names v run is_run rest.is_durable idle m moment in
      record { is_durable = torn_durable m w torn names is_unchanged.is_durable; settled = settled_on names files v w rest.settled (torn_quiet m w torn names v is_unchanged.quiet) }
  led_idle start files earlier v Crashes w rest idle crash =
      let names = ignored_with_all_touched earlier start in
      record { is_durable = crash_durable names v w crash; settled = settled_on names files v w rest.settled (crash_quiet names v w crash) }
  led_idle start files earlier v Edits w rest idle synced = absurd idle
  led_idle start files earlier v (Touches theirs) w rest idle touch =
      let few = ignored_with_all_touched earlier start in
      let names = touched_outside_journal_or_ignored theirs few in
      record {
        is_durable = touch_durable theirs v w touch few rest.is_durable;
        settled = settled_on names files v w (settled_more few names (touched_more theirs few) files v rest.settled) (touch_quiet theirs v w touch few);
      }

  idle_from : (start : Ignored) (files : Files) (v w : TreeState) (events : List RootEvent) → IsDurableAndLeavesFiles start files v → ReachesWithoutCommitOrEdit v events w → IsDurableAndLeavesFiles (ignored_with_all_touched events start) files w
  idle_from start files v w [] rest is = subst (IsDurableAndLeavesFiles start files) (sym is) rest
  idle_from start files v w (event ∷ earlier) rest (u, seen, idle, leads) =
      led_idle start files earlier u event w (idle_from start files v u earlier rest seen) idle leads

  pub seen_idly : (ignored : Ignored) (v w : TreeState) (events : List RootEvent) → IsDurableAndLeavesFiles ignored (files_of v) v → ReachesWithoutCommitOrEdit v events w → IsDurableAndLeavesFiles (ignored_with_all_touched events ignored) (files_of v) w
  seen_idly ignored v w events = idle_from ignored (files_of v) v w events

  same_state : (few many : Ignored) (files : Files) (w : TreeState) → AreMore few many → IsCrashImage w (files_of w) → IsDurableAndLeavesFiles few files w → state_of many (files_of w) ≡ state_of many files
  same_state few many files w more left rest = states_same few many more (files_of w) files (rest.settled (files_of w) left)

  pub idly_agree : ((v : TreeState) → IsCrashImage v (files_of v)) → (ignored names : Ignored) (v w u : TreeState) (events others : List RootEvent) → IsDurableAndLeavesFiles ignored (files_of v) v → ReachesWithoutCommitOrEdit v events w → ReachesWithoutCommitOrEdit v others u
      → AreMore (ignored_with_all_touched events ignored) names → AreMore (ignored_with_all_touched others ignored) names → state_of names (files_of w) ≡ state_of names (files_of u)
  idly_agree left ignored names v w u events others rest first second more others_more =
      same_state (ignored_with_all_touched events ignored) names (files_of v) w more (left w) (seen_idly ignored v w events rest first)
      ∙ sym (same_state (ignored_with_all_touched others ignored) names (files_of v) u others_more (left u) (seen_idly ignored v u others rest second))

-- ---- a command that only reads

pub reader_idle : ((words : List (List ℕ)) (files : Files) (o : Outcome) → IsTrue (do_arguments_neither_recover_nor_write (command_of words)) → IsOutcome (command_of words) files o → o.commits ≡ false) → (v : TreeState) (run : Run) → IsTrue (do_arguments_neither_recover_nor_write (command_of run.words)) → IsRunWithoutCommit v run
reader_idle reading v run reads = inr (reader_output (command_of run.words) reads, λ commit. false≢true (sym (reading run.words (files_of v) commit.0 reads commit.1) ∙ commit.2))

-- ---- the state

shown_by : (b c : Bool) (file : Option (List ℕ)) → c ≡ false → cond (b || c) None file ≡ cond b None file
shown_by true c file shown = refl
shown_by false true file shown = cc
shown_by false false file shown = refl

pub state_read : (ignored : Ignored) (files : Files) (q : List ℕ) → ignored q ≡ false → state_of ignored files q ≡ unstaged_files files q
state_read ignored files q shown = shown_by (is_staged q) (ignored q) (recovered_files files q) shown
