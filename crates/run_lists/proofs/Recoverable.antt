-- No list leaves a bad intent, and a run that was stopped is recovered by the next one.
use Rattle.std.proofs.Common.{◌≡◌, inl, inr, ⊎_elim, ℕ, Bool, true, false, cond, ◌||◌, List, [], ◌∷◌, Option, Some, None, refl, sym, ap, subst, ◌∙◌}
use Rattle.std.specs.Prelude.{if◌then◌else◌}
use Rattle.apk_front.specs.adb_schema.Soundness.{container_fault_except_contents}
use Rattle.adb_view.specs.declared.tables.Which.TheVariants.{Intent as IntentTable}
use Rattle.apk_front.specs.Answers.{answer_for_refusal}
use Rattle.apk_front.specs.Moments.{IsOkRefusedOrOutputFault, HasOutcomeWithoutCommit}
use Rattle.apk_front.specs.declared.answer.Answer.{Answer}
use Rattle.apk_front.specs.declared.answer.Answer.TheVariants.{Refused}
use Rattle.base_core.specs.Calls.{HoldsNow}
use Rattle.base_core.specs.Files.{Files}
use Rattle.base_core.specs.Undone.{IsAfterCrash, IsDurable, IsCrashImage}
use Rattle.base_core.specs.Tree.{TreeState, files_of}
use Rattle.base_core.specs.declared.cause.Cause.{Cause}
use Rattle.apk_front.specs.journal_core.Quiet.{EachCrashLeavesOld}
use Rattle.apk_front.specs.journal_core.Recovery.{EachCrashLeavesStateOf, StateDependsOn, intent_name, is_staged, recovered_files, state_of}
use Rattle.apk_front.specs.journal_core.Staged.{IsIntentFault, unstaged_files}
use Rattle.apk_front.proofs.journal_core.More.{quiet_more, states_same}
use Rattle.apk_front.specs.outcome.Effect.{Effect, Computes, OnlyReadsFiles, AsksRoot, Makes, Changes, does_recover, effect_of_arguments, output}
use Rattle.apk_front.specs.outcome.Outcome.{Outcome}
use Rattle.apk_front.specs.outcome.Words.{IsOutcome}
use Rattle.apk_front.specs.outcome.Work.{fault_of_intent, recovery_fault}
use Rattle.report_core.specs.declared.refusal.Refusal.{Refusal}
use Rattle.report_core.specs.declared.refusal.Refusal.TheVariants.{IntentBad}
use Rattle.apk_front.specs.words_core.Grammar.{command_of}
use Rattle.run_lists.specs.Events.{Crashes, Edits, Ends, RootEvent, Reaches, ReachesWithoutCommitOrEdit, IsEventWithoutCommitOrEdit, IsMomentOf, IsOutcomeFrom, IsRunFrom, IsPossibleStop, IsTransition, Run, Stops, Touches, ignored_after, ignored_during_run, nothing_ignored, ignored_with_all_touched, touched_outside_journal_or_ignored}
use Rattle.run_lists.specs.Reading.{HasBadIntent}
use Rattle.run_lists.specs.Recovered.{ReachesWithNoBadIntentPutByOthers, HasStateOfSomeCrashBefore, HasStateOfCrashBeforeOrOutcome, HasSameState, RecoversToStateWithoutRefusal, IsNotRefusedForIntent, EachCrashLeavesNoBadIntent, PutsNoBadIntentIfEditByOthers}
use Rattle.run_lists.specs.Safety.{HasStateAsReadOrOutcome, LeavesOldOrOutcome}
use Rattle.run_lists.proofs.Along.{as_crash, seen_durable}
use Rattle.apk_front.proofs.outcome.NextRoom.{intent_gone}
use Rattle.apk_front.proofs.outcome.Recovered.{ReadSound}
use Rattle.run_lists.proofs.Committed.{CommitsNoIntent}
use Rattle.run_lists.proofs.Facts.{AreMore, Facts, Ignored}
use Rattle.run_lists.proofs.Idle.{state_read}
use Rattle.run_lists.proofs.Moments.{last_moment}
use Rattle.run_lists.proofs.Names.{all_touched_hides, all_touched_more, after_hides, scratch_hides, touched_hides, touched_more}
use Rattle.run_lists.proofs.OneRun.{Told, idle_end, idle_moment, now_hides, now_durable, durable_at, quiet_self, safe, told}
use Rattle.run_lists.proofs.Torn.{torn_good, torn_image, torn_durable, torn_quiet}
use Rattle.run_lists.proofs.Touched.{touch_durable, touch_quiet}
use Rattle.run_lists.proofs.Unstaged.{again_at}

-- ---- laws of the crates below

abbrev pub HasSameBadIntent : Type 0
HasSameBadIntent = (ignored : Ignored) (a b : Files) (cause : Cause) → ignored intent_name ≡ false → state_of ignored a ≡ state_of ignored b → IsIntentFault a cause → IsIntentFault b cause

abbrev pub OnlyBadRefused : Type 0
OnlyBadRefused = (words : List (List ℕ)) (files : Files) (o : Outcome) (cause : Cause) → does_recover (effect_of_arguments (command_of words)) ≡ true → IsOutcome (command_of words) files o → o.refusal ≡ Some (IntentBad cause) → recovery_fault (effect_of_arguments (command_of words)) files ≡ Some cause

-- ---- files with a bad intent

none_bad : (files : Files) → files intent_name ≡ None → HasBadIntent files → ⊥
none_bad files none (cause, (file, is, bad)) = cc (none, is)

-- where there is none, nothing keeps a command from recovering
good_fault : (files : Files) → (HasBadIntent files → ⊥) → fault_of_intent (files intent_name) ≡ None
good_fault files good = by (files intent_name) refl
  where
    by_fault : (file : List ℕ) (fault : Option Cause) → files intent_name ≡ Some file → container_fault_except_contents IntentTable file ≡ fault → fault ≡ None
    by_fault file None is at = refl
    by_fault file (Some cause) is at = absurd (good (cause, (file, is, at)))

    by : (found : Option (List ℕ)) → files intent_name ≡ found → fault_of_intent found ≡ None
    by None is = refl
    by (Some file) is = by_fault file (container_fault_except_contents IntentTable file) is refl

no_fault : (effect : Effect) (files : Files) → (HasBadIntent files → ⊥) → recovery_fault effect files ≡ None
no_fault Computes files good = refl
no_fault OnlyReadsFiles files good = refl
no_fault AsksRoot files good = good_fault files good
no_fault Makes files good = good_fault files good
no_fault Changes files good = good_fault files good

pub seen_plainly : (first v : TreeState) (events : List RootEvent) → ReachesWithNoBadIntentPutByOthers first events v → Reaches first events v
seen_plainly first v [] is = is
seen_plainly first v (event ∷ earlier) (u, seen, leads, puts) = (u, seen_plainly first u earlier seen, leads)

module _ (same : HasSameBadIntent) where
  bad_both : (ignored : Ignored) (a b : Files) → ignored intent_name ≡ false → state_of ignored a ≡ state_of ignored b → HasBadIntent a → HasBadIntent b
  bad_both ignored a b shown is (cause, fault) = (cause, same ignored a b cause shown is fault)

  quiet_good : (ignored : Ignored) (v m : TreeState) → ignored intent_name ≡ false → EachCrashLeavesOld ignored v m → EachCrashLeavesNoBadIntent v → EachCrashLeavesNoBadIntent m
  quiet_good ignored v m shown quiet good = λ image is bad.
      let was = quiet image is in
      good was.0 was.1 (bad_both ignored image was.0 shown was.2 bad)

  module _ (committed : CommitsNoIntent) where
    moment_good : (ignored : Ignored) (v : TreeState) (run : Run) (m : TreeState) → ignored intent_name ≡ false → EachCrashLeavesNoBadIntent v → LeavesOldOrOutcome ignored v run m → EachCrashLeavesNoBadIntent m
    moment_good ignored v run m shown good (inl quiet) = quiet_good ignored v m shown quiet good
    moment_good ignored v run m shown good (inr (o, one, commits, old_or_new)) = λ image is bad. ⊎_elim
        (λ was. good was.0 was.1 (bad_both ignored image was.0 shown was.2 bad))
        (λ new. none_bad o.files (committed run.words (files_of v) o one commits) (bad_both ignored image o.files shown new bad))
        (old_or_new image is)

    module _ (facts : Facts) where
      run_good : (names : Ignored) (v : TreeState) (run : Run) → IsRunFrom v run → names intent_name ≡ false → IsDurable (StateDependsOn names) v → EachCrashLeavesNoBadIntent v → (m : TreeState) → IsMomentOf run m → EachCrashLeavesNoBadIntent m
      run_good names v run is_run shown is_durable good m moment =
          let all = safe facts names v run is_run shown is_durable in
          moment_good (ignored_during_run run names) v run m (scratch_hides (output run.words) names shown) good (all.moments m moment)

      led_good : (names : Ignored) (event : RootEvent) (v w : TreeState) → names intent_name ≡ false → IsDurable (StateDependsOn names) v → EachCrashLeavesNoBadIntent v → IsTransition v event w → PutsNoBadIntentIfEditByOthers event w → EachCrashLeavesNoBadIntent w
      led_good names (Ends run) v w shown is_durable good (is_run, ends) puts = run_good names v run is_run shown is_durable good w (last_moment run v w is_run ends)
      led_good names (Stops run) v w shown is_durable good (is_run, (m, moment, torn)) puts = torn_good m w torn (run_good names v run is_run shown is_durable good m moment)
      led_good names Crashes v w shown is_durable good crash puts = λ image is bad.
          good (files_of w) crash.left (bad_both nothing_ignored image (files_of w) refl (facts.crash_settled nothing_ignored v w crash image is) bad)
      led_good names Edits v w shown is_durable good synced puts = λ image is bad.
          puts (bad_both nothing_ignored image (files_of w) refl (facts.crash_settled nothing_ignored w w (as_crash facts w synced) image is) bad)
      led_good names (Touches theirs) v w shown is_durable good touch puts = quiet_good (touched_outside_journal_or_ignored theirs names) v w (touched_hides theirs names shown) (touch_quiet theirs v w touch names) good

      module _ (start : Ignored) (off : start intent_name ≡ false) (first : TreeState) (is_durable : IsDurable (StateDependsOn start) first) (good : EachCrashLeavesNoBadIntent first) where
        pub seen_good : (v : TreeState) (events : List RootEvent) → ReachesWithNoBadIntentPutByOthers first events v → EachCrashLeavesNoBadIntent v
        seen_good v [] is = subst EachCrashLeavesNoBadIntent (sym is) good
        seen_good v (event ∷ earlier) (u, seen, leads, puts) =
            led_good (ignored_after start earlier) event u v (after_hides start off earlier) (seen_durable facts start off first u earlier is_durable (seen_plainly first u earlier seen)) (seen_good u earlier seen) leads puts

-- ---- the next run

refused_by : (refusal : Option Refusal) (cause : Cause) → Refused (IntentBad cause) ≡ answer_for_refusal refusal → refusal ≡ Some (IntentBad cause)
refused_by None cause is = cc
refused_by (Some refusal) cause is = cc

none_some : (a : Option Cause) (cause : Cause) → a ≡ None → a ≡ Some cause → ⊥
none_some a cause none some = cc (none, some)

module _ (facts : Facts) (only : OnlyBadRefused) where
  told_bad : (answer : Answer) (o : Outcome) (cause : Cause) → answer ≡ Refused (IntentBad cause) → Told answer o → o.refusal ≡ Some (IntentBad cause)
  told_bad answer o cause is (inl by) = refused_by o.refusal cause (sym is ∙ by)
  told_bad answer o cause is (inr by) = absurd (cc (is, by))

  pub good_unrefused : (v : TreeState) (run : Run) → IsRunFrom v run → does_recover (effect_of_arguments (command_of run.words)) ≡ true → EachCrashLeavesNoBadIntent v → IsNotRefusedForIntent run
  good_unrefused v run is_run recovers good = λ cause is.
      let t = told (IsOutcomeFrom v run) (facts.unique run.words (files_of v)) _ _ run.answer run.out run.err is_run.stated (subst IsOkRefusedOrOutputFault (sym is) tt) in
      none_some (recovery_fault (effect_of_arguments (command_of run.words)) (files_of v)) cause
      (no_fault (effect_of_arguments (command_of run.words)) (files_of v) (good (files_of v) (facts.read_left v)))
      (only run.words (files_of v) t.0 cause recovers t.1 (told_bad run.answer t.0 cause is t.2))

pub good_recovers : Facts → (v : TreeState) (words : List (List ℕ)) → EachCrashLeavesNoBadIntent v → recovery_fault (effect_of_arguments (command_of words)) (files_of v) ≡ None
good_recovers facts v words good = no_fault (effect_of_arguments (command_of words)) (files_of v) (good (files_of v) (facts.read_left v))

-- ---- behind a run that was stopped

staged_none : (files : Files) (q : List ℕ) → is_staged q ≡ true → unstaged_files files q ≡ None
staged_none files q staged = ap (λ (b : Bool). if b then None else recovered_files files q) staged

hidden_none : (b c : Bool) (file : Option (List ℕ)) → c ≡ true → cond (b || c) None file ≡ None
hidden_none true c file is = refl
hidden_none false true file is = refl
hidden_none false false file is = cc

-- a recovery leaves the state as it is
state_again : (ignored : Ignored) (files : Files) → state_of ignored (unstaged_files files) ≡ state_of ignored files
state_again ignored files i q = by (ignored q) refl i
  where
    again : (b : Bool) → is_staged q ≡ b → unstaged_files (unstaged_files files) q ≡ unstaged_files files q
    again true staged = staged_none (unstaged_files files) q staged ∙ sym (staged_none files q staged)
    again false shown = again_at files q shown

    by : (b : Bool) → ignored q ≡ b → state_of ignored (unstaged_files files) q ≡ state_of ignored files q
    by true hidden =
        hidden_none (is_staged q) (ignored q) (recovered_files (unstaged_files files) q) hidden
        ∙ sym (hidden_none (is_staged q) (ignored q) (recovered_files files q) hidden)
    by false shown = state_read ignored (unstaged_files files) q shown ∙ (again (is_staged q) refl ∙ sym (state_read ignored files q shown))

module _ (names : Ignored) (v : TreeState) (run : Run) where
  pub state_on : (a b : Files) → state_of names a ≡ state_of names b → HasStateOfCrashBeforeOrOutcome names v run b → HasStateOfCrashBeforeOrOutcome names v run a
  state_on a b is (inl (was, left, same)) = inl (was, left, is ∙ same)
  state_on a b is (inr (o, one, commits, same)) = inr (o, one, commits, is ∙ same)

  pub left_state : (m : TreeState) → LeavesOldOrOutcome names v run m → (image : Files) → IsCrashImage m image → HasStateOfCrashBeforeOrOutcome names v run image
  left_state m (inl quiet) image is = let was = quiet image is in inl (was.0, was.1, was.2)
  left_state m (inr (o, one, commits, old_or_new)) image is =
      ⊎_elim (λ was. inl (was.0, was.1, was.2)) (λ new. inr (o, one, commits, new)) (old_or_new image is)

-- what holds of a state without some names holds without more of them
pub before_more : (few many : Ignored) (v : TreeState) → AreMore few many → (files : Files) → HasStateOfSomeCrashBefore few v files → HasStateOfSomeCrashBefore many v files
before_more few many v more files (was, left, same) = (was, left, states_same few many more files was same)

pub before_or_outcome_more : (few many : Ignored) (v : TreeState) (run : Run) → AreMore few many → (files : Files) → HasStateOfCrashBeforeOrOutcome few v run files → HasStateOfCrashBeforeOrOutcome many v run files
before_or_outcome_more few many v run more files (inl before) = inl (before_more few many v more files before)
before_or_outcome_more few many v run more files (inr (o, one, commits, same)) = inr (o, one, commits, states_same few many more files o.files same)

pub one_of_two : (names : Ignored) (v : TreeState) (run : Run) (files : Files) → EachCrashLeavesStateOf names (files_of v) v → HasStateOfCrashBeforeOrOutcome names v run files → HasStateAsReadOrOutcome names v run files
one_of_two names v run files settled (inl (was, left, same)) = inl (same ∙ settled was left)
one_of_two names v run files settled (inr (o, one, commits, same)) = inr (o, one, commits, same)

quiet_on : (ignored : Ignored) (a b c : TreeState) → EachCrashLeavesOld ignored a b → EachCrashLeavesOld ignored b c → EachCrashLeavesOld ignored a c
quiet_on ignored a b c first second image is =
    let mid = second image is in
    let was = first mid.0 mid.1 in
    (was.0, was.1, mid.2 ∙ was.2)

record QuietOn (ignored : Ignored) (m w : TreeState) : Type 0 where
  quiet : EachCrashLeavesOld ignored m w
  is_durable : IsDurable (StateDependsOn ignored) w

module _ (facts : Facts) (crash_quiet : (ignored : Ignored) (v w : TreeState) → IsAfterCrash v w → EachCrashLeavesOld ignored v w) (start : Ignored) where
  led_quiet : (earlier : List RootEvent) (m v : TreeState) (event : RootEvent) (w : TreeState) → QuietOn (ignored_with_all_touched earlier start) m v → IsEventWithoutCommitOrEdit v event → IsTransition v event w → QuietOn (ignored_with_all_touched (event ∷ earlier) start) m w
  led_quiet earlier m v (Ends run) w on idle (is_run, ends) =
      let names = ignored_with_all_touched earlier start in
      let is_unchanged = idle_end names v run is_run on.is_durable idle w ends in
      record { quiet = quiet_on names m v w on.quiet is_unchanged.quiet; is_durable = is_unchanged.is_durable }
  led_quiet earlier m v (Stops run) w on idle (is_run, (at, moment, torn)) =
      let names = ignored_with_all_touched earlier start in
      let is_unchanged = idle_moment names v run is_run on.is_durable idle at moment in
      record { quiet = quiet_on names m v w on.quiet (torn_quiet at w torn names v is_unchanged.quiet); is_durable = torn_durable at w torn names is_unchanged.is_durable }
  led_quiet earlier m v Crashes w on idle crash =
      let names = ignored_with_all_touched earlier start in
      record { quiet = quiet_on names m v w on.quiet (crash_quiet names v w crash); is_durable = facts.crash_durable names v w crash }
  led_quiet earlier m v Edits w on idle synced = absurd idle
  led_quiet earlier m v (Touches theirs) w on idle touch =
      let few = ignored_with_all_touched earlier start in
      let names = touched_outside_journal_or_ignored theirs few in
      record {
        quiet = quiet_on names m v w (quiet_more few names (touched_more theirs few) m v on.quiet) (touch_quiet theirs v w touch few);
        is_durable = touch_durable theirs v w touch few on.is_durable;
      }

  seen_quiet : (m w : TreeState) (later : List RootEvent) → IsDurable (StateDependsOn start) m → ReachesWithoutCommitOrEdit m later w → QuietOn (ignored_with_all_touched later start) m w
  seen_quiet m w [] is_durable is = subst (QuietOn start m) (sym is) (record { quiet = quiet_self start m; is_durable = is_durable })
  seen_quiet m w (event ∷ earlier) is_durable (v, seen, idle, leads) = led_quiet earlier m v event w (seen_quiet m v earlier is_durable seen) idle leads

  module _ (same : HasSameBadIntent) (shown : start intent_name ≡ false) (only : OnlyBadRefused) (sound : ReadSound)
      (recovered : (v : TreeState) (run : Run) → IsRunFrom v run → does_recover (effect_of_arguments (command_of run.words)) ≡ true → recovery_fault (effect_of_arguments (command_of run.words)) (files_of v) ≡ None
      → IsOkRefusedOrOutputFault run.answer → HasOutcomeWithoutCommit (IsOutcomeFrom v run) → HoldsNow run.now (λ w. files_of w ≡ unstaged_files (files_of v))) where
    -- from a moment of a run on, over what crashes and idle runs leave
    pub next_recovers : (m w : TreeState) (later : List RootEvent) (next : Run) → IsDurable (StateDependsOn start) m → EachCrashLeavesNoBadIntent m
        → ReachesWithoutCommitOrEdit m later w → IsRunFrom w next → does_recover (effect_of_arguments (command_of next.words)) ≡ true → (image : Files) × IsCrashImage m image × RecoversToStateWithoutRefusal (HasSameState (ignored_with_all_touched later start) image) w next
    next_recovers m w later next is_durable good seen is_next recovers =
        let names = ignored_with_all_touched later start in
        let on = seen_quiet m w later is_durable seen in
        let here : EachCrashLeavesNoBadIntent w = quiet_good same names m w (all_touched_hides later start shown) on.quiet good in
        let fault = good_recovers facts w next.words here in
        let was = on.quiet (files_of w) (facts.read_left w) in (
          was.0,
          was.1,
          record {
            unrefused = good_unrefused facts only w next is_next recovers here;
            works = fault;
            files = record {
              intent = intent_gone sound (files_of w) (files_of w intent_name) refl (good_fault (files_of w) (here (files_of w) (facts.read_left w)));
              stage = staged_none (files_of w);
              state = state_again names (files_of w) ∙ was.2;
            };
            read = recovered w next is_next recovers fault;
          },
        )

pub recovered_as : (A B : Files → Type 0) → ((files : Files) → A files → B files) → (w : TreeState) (next : Run) → RecoversToStateWithoutRefusal A w next → RecoversToStateWithoutRefusal B w next
recovered_as A B leads w next is = record {
  unrefused = is.unrefused;
  works = is.works;
  files = record { intent = is.files.intent; stage = is.files.stage; state = leads (unstaged_files (files_of w)) is.files.state };
  read = is.read;
}

-- behind a list
module _ (facts : Facts) (same : HasSameBadIntent) (committed : CommitsNoIntent) (only : OnlyBadRefused) (sound : ReadSound) (crash_quiet : (ignored : Ignored) (v w : TreeState) → IsAfterCrash v w → EachCrashLeavesOld ignored v w)
    (recovered : (v : TreeState) (run : Run) → IsRunFrom v run → does_recover (effect_of_arguments (command_of run.words)) ≡ true → recovery_fault (effect_of_arguments (command_of run.words)) (files_of v) ≡ None
    → IsOkRefusedOrOutputFault run.answer → HasOutcomeWithoutCommit (IsOutcomeFrom v run) → HoldsNow run.now (λ w. files_of w ≡ unstaged_files (files_of v)))
    (start : Ignored) (off : start intent_name ≡ false) (first : TreeState) (is_durable : IsDurable (StateDependsOn start) first) (good : EachCrashLeavesNoBadIntent first) where
  pub stopped_left : (v m w : TreeState) (events later : List RootEvent) (run next : Run) → ReachesWithNoBadIntentPutByOthers first events v → IsRunFrom v run → IsPossibleStop run m → ReachesWithoutCommitOrEdit m later w
      → IsRunFrom w next → does_recover (effect_of_arguments (command_of next.words)) ≡ true → (image : Files) × IsCrashImage m image × RecoversToStateWithoutRefusal (HasSameState (ignored_with_all_touched later (ignored_during_run run (ignored_after start events))) image) w next
  stopped_left v m w events later run next seen is_run (at, moment, torn) idly is_next recovers =
      let names = ignored_after start events in
      let shown = after_hides start off events in
      let here = seen_durable facts start off first v events is_durable (seen_plainly first v events seen) in
      let order = durable_at facts names v run is_run shown here (is_run.crash (ignored_during_run run names) (now_durable facts names v run is_run shown here) (now_hides facts names v run is_run shown here)) at moment in
      let is_good = run_good same committed facts names v run is_run shown here (seen_good same committed facts start off first is_durable good v events seen) at moment in
      next_recovers facts crash_quiet (ignored_during_run run names) same (scratch_hides (output run.words) names shown) only sound recovered m w later next
      (torn_durable at m torn (ignored_during_run run names) order) (torn_good at m torn is_good) idly is_next recovers

  pub stopped_recovers : (v m w : TreeState) (events later : List RootEvent) (run next : Run) → ReachesWithNoBadIntentPutByOthers first events v → IsRunFrom v run → IsPossibleStop run m → ReachesWithoutCommitOrEdit m later w
      → IsRunFrom w next → does_recover (effect_of_arguments (command_of next.words)) ≡ true → RecoversToStateWithoutRefusal (HasStateOfCrashBeforeOrOutcome (ignored_with_all_touched later (ignored_during_run run (ignored_after start events))) v run) w next
  stopped_recovers v m w events later run next seen is_run (at, moment, torn) idly is_next recovers =
      let few = ignored_during_run run (ignored_after start events) in
      let names = ignored_with_all_touched later few in
      let left = stopped_left v m w events later run next seen is_run (at, moment, torn) idly is_next recovers in
      let either = (safe facts (ignored_after start events) v run is_run (after_hides start off events) (seen_durable facts start off first v events is_durable (seen_plainly first v events seen))).moments at moment in
      let had = left_state few v run at either left.0 (torn_image at m torn left.0 left.1) in
      recovered_as (HasSameState names left.0) (HasStateOfCrashBeforeOrOutcome names v run)
      (λ files same. state_on names v run files left.0 same (before_or_outcome_more few names v run (all_touched_more later few) left.0 had)) w next left.2
