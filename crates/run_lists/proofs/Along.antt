-- Along a list of runs, stops and crashes.
use Rattle.std.proofs.Common.{◌≡◌, inl, inr, ⊎_elim, ℕ, false, List, [], ◌∷◌, Option, None, sym, subst, ◌∙◌}
use Rattle.apk_front.specs.Moments.{IsOkRefusedOrOutputFault, IgnoresOutputScratchNameButNotIntent, IsDurableAndLeavesFiles, ignored_except_output_and_scratch}
use Rattle.apk_front.specs.declared.answer.Answer.{Answer}
use Rattle.apk_front.specs.declared.answer.Answer.TheVariants.{Ok as Done, Refused, TreeFault, OutFault, Memory}
use Rattle.base_core.specs.Calls.{HoldsNow}
use Rattle.base_core.specs.Files.{Files}
use Rattle.base_core.specs.Undone.{IsAfterCrash, IsDurable}
use Rattle.base_core.specs.Tree.{TreeState, files_of}
use Rattle.apk_front.specs.journal_core.Quiet.{EachCrashLeavesOld}
use Rattle.apk_front.specs.journal_core.Recovery.{EachCrashLeavesStateOf, StateDependsOn, intent_name}
use Rattle.apk_front.specs.outcome.Effect.{output}
use Rattle.run_lists.specs.Events.{Crashes, Edits, Ends, RootEvent, HasNoUnfinishedRunSinceCrash, Reaches, ReachesOneCrashState, IsAllSynced, IsRunWithoutCommit, IsMomentOf, IsRunFrom, DiffersOnlyInUnsyncedBytes, PreservesOneCrashState, IsTransition, EnsuresOneCrashState, Run, Stops, Touches, ignored_after, ignored_after_answer, ignored_during_run, nothing_ignored, ignored_with_scratch, touched_outside_journal_or_ignored}
use Rattle.run_lists.specs.Safety.{IsAtomic, IsCrashSafeRun, AnswersOutcomeAndLeavesItsFiles}
use Rattle.run_lists.proofs.AtMoments.{now_at}
use Rattle.run_lists.proofs.Ending.{Resting, ends_at_rest, ends_so}
use Rattle.run_lists.proofs.Facts.{Facts, Ignored}
use Rattle.run_lists.proofs.Names.{after_hides, hides, scratch_more, touched_more}
use Rattle.run_lists.proofs.OneRun.{answered, atomic, idle_end, idle_moment, more_durable, now_hides, now_durable, durable_at, safe, settled_on}
use Rattle.run_lists.proofs.Torn.{torn_durable, torn_quiet}
use Rattle.run_lists.proofs.Touched.{touch_durable, touch_quiet}

-- ---- the order

-- a tree that is synced is what a crash leaves of it
pub as_crash : Facts → (w : TreeState) → IsAllSynced w → IsAfterCrash w w
as_crash facts w synced = record { left = facts.read_left w; one_map = synced.one_map; synced = synced.files }

abbrev InOrder : Ignored → TreeState → Type 0
InOrder names w = IsDurable (StateDependsOn names) w

order_rests : Facts → Resting InOrder
order_rests facts = record {
  rest = λ names files w is rest. rest.is_durable;
  more = λ few many w up is_durable. facts.more_order few many w up is_durable;
}

module _ (facts : Facts) (start : Ignored) (off : start intent_name ≡ false) where
  led_durable : (event : RootEvent) (earlier : List RootEvent) (v w : TreeState) → IsDurable (StateDependsOn (ignored_after start earlier)) v → IsTransition v event w → IsDurable (StateDependsOn (ignored_after start (event ∷ earlier))) w
  led_durable (Ends run) earlier v w is_durable (is_run, ends) =
      let names = ignored_after start earlier in
      let hidden = after_hides start off earlier in
      ends_so facts names v run is_run hidden is_durable InOrder (order_rests facts) w ends (λ is_unchanged. is_unchanged.is_durable)
      (λ fault. now_at run.now (IsDurable (StateDependsOn (ignored_during_run run names))) w
      (is_run.is_durable (ignored_during_run run names) (now_durable facts names v run is_run hidden is_durable) (now_hides facts names v run is_run hidden is_durable)) ends)
  led_durable (Stops run) earlier v w is_durable (is_run, (m, moment, torn)) =
      let names = ignored_after start earlier in
      let hidden = after_hides start off earlier in
      torn_durable m w torn (ignored_during_run run names)
      (durable_at facts names v run is_run hidden is_durable
      (is_run.crash (ignored_during_run run names) (now_durable facts names v run is_run hidden is_durable) (now_hides facts names v run is_run hidden is_durable)) m moment)
  led_durable Crashes earlier v w is_durable crash = facts.crash_durable nothing_ignored v w crash
  led_durable Edits earlier v w is_durable synced = facts.crash_durable nothing_ignored w w (as_crash facts w synced)
  led_durable (Touches theirs) earlier v w is_durable touch = touch_durable theirs v w touch (ignored_after start earlier) is_durable

  pub seen_durable : (first v : TreeState) (events : List RootEvent) → IsDurable (StateDependsOn start) first → Reaches first events v → IsDurable (StateDependsOn (ignored_after start events)) v
  seen_durable first v [] is_durable is = subst (IsDurable (StateDependsOn start)) (sym is) is_durable
  seen_durable first v (event ∷ earlier) is_durable (u, seen, leads) = led_durable event earlier u v (seen_durable first u earlier is_durable seen) leads

  pub seen_begins : (first v : TreeState) (events : List RootEvent) (words : List (List ℕ)) → IsDurable (StateDependsOn start) first → Reaches first events v
      → IsDurable (StateDependsOn (ignored_with_scratch (output words) (ignored_after start events))) v × IgnoresOutputScratchNameButNotIntent (output words) (ignored_with_scratch (output words) (ignored_after start events))
  seen_begins first v events words is_durable seen = (
    more_durable facts (output words) (ignored_after start events) v (seen_durable first v events is_durable seen),
    hides (output words) (ignored_after start events) (after_hides start off events),
  )

  pub seen_safe : (first v : TreeState) (events : List RootEvent) → IsDurable (StateDependsOn start) first → Reaches first events v → (run : Run) → IsRunFrom v run → IsCrashSafeRun (ignored_after start events) v run
  seen_safe first v events is_durable seen run is_run = safe facts (ignored_after start events) v run is_run (after_hides start off events) (seen_durable first v events is_durable seen)

-- ---- one state

own_settled : Facts → (ignored : Ignored) (files : Files) (w : TreeState) → EachCrashLeavesStateOf ignored files w → EachCrashLeavesStateOf ignored (files_of w) w
own_settled facts ignored files w settled image is = settled image is ∙ sym (settled (files_of w) (facts.read_left w))

abbrev HasOne : Ignored → TreeState → Type 0
HasOne names w = EachCrashLeavesStateOf names (files_of w) w

one_rests : Facts → Resting HasOne
one_rests facts = record {
  rest = λ names files w is rest. own_settled facts names files w rest.settled;
  more = λ few many w up one. facts.more_settled few many (files_of w) w up one;
}

-- without an output nothing is ignored that was not ignored before
by_no_output : (Q : Ignored → Type 0) (ignored : Ignored) (run : Run) (answer : Answer) → IsOkRefusedOrOutputFault answer → output run.words ≡ None → Q (ignored_during_run run ignored) → Q (ignored_after_answer answer run ignored)
by_no_output Q ignored run answer answers none q =
    by answer answers (subst (λ (o : Option (List ℕ)). Q (ignored_with_scratch o ignored)) none q)
  where
    by : (answer : Answer) → IsOkRefusedOrOutputFault answer → Q ignored → Q (ignored_after_answer answer run ignored)
    by Done answers q = subst (λ (o : Option (List ℕ)). Q (ignored_except_output_and_scratch o ignored)) (sym none) q
    by (Refused r) answers q = q
    by OutFault answers q = q
    by TreeFault answers q = absurd answers
    by Memory answers q = absurd answers

module _ (facts : Facts) (ignored : Ignored) (v : TreeState) (run : Run) (is_run : IsRunFrom v run) (hidden : ignored intent_name ≡ false) (is_durable : IsDurable (StateDependsOn ignored) v) (w : TreeState) where
  abbrev One : Ignored → Type 0
  One names = EachCrashLeavesStateOf names (files_of w) w

  pub made_one : HoldsNow run.now (λ u. u ≡ w) → EnsuresOneCrashState v (Ends run) → One (ignored_after_answer run.answer run ignored)
  made_one ends (answers, inl commit) =
      ends_at_rest facts ignored v run is_run hidden is_durable HasOne (one_rests facts) w ends answers commit
  made_one ends (answers, inr (none, can)) =
      let l = now_at run.now (AnswersOutcomeAndLeavesItsFiles ignored v run) w (answered facts ignored v run is_run hidden is_durable answers) ends in
      by_no_output One ignored run run.answer answers none (own_settled facts (ignored_during_run run ignored) l.outcome.files w (l.settled (inr can)))

  module _ (settled : EachCrashLeavesStateOf ignored (files_of v) v) where
    idle_one : EachCrashLeavesOld ignored v w → One (ignored_during_run run ignored)
    idle_one quiet =
        facts.more_settled ignored (ignored_during_run run ignored) (files_of w) w (scratch_more (output run.words) ignored)
        (own_settled facts ignored (files_of v) w (settled_on ignored (files_of v) v w settled quiet))

    pub kept_one : HoldsNow run.now (λ u. u ≡ w) → PreservesOneCrashState v (Ends run) → One (ignored_after_answer run.answer run ignored)
    kept_one ends keeps =
        ends_so facts ignored v run is_run hidden is_durable HasOne (one_rests facts) w ends
        (λ is_unchanged. own_settled facts ignored (files_of v) w (settled_on ignored (files_of v) v w settled is_unchanged.quiet))
        (λ fault. ⊎_elim (λ ended. absurd (ended fault)) (λ idle. idle_one (idle_end ignored v run is_run is_durable idle w ends).quiet) keeps)

    pub stopped_one : (m : TreeState) → IsMomentOf run m → DiffersOnlyInUnsyncedBytes m w → IsRunWithoutCommit v run → One (ignored_during_run run ignored)
    stopped_one m moment torn idle = idle_one (torn_quiet m w torn ignored v (idle_moment ignored v run is_run is_durable idle m moment).quiet)

module _ (facts : Facts) (start : Ignored) (off : start intent_name ≡ false) (first : TreeState) (rest : IsDurableAndLeavesFiles start (files_of first) first) where
  pub seen_of : (v : TreeState) (events : List RootEvent) → ReachesOneCrashState first events v → Reaches first events v
  seen_of v [] is = is
  seen_of v (event ∷ earlier) (u, leads, inl (seen, makes)) = (u, seen, leads)
  seen_of v (event ∷ earlier) (u, leads, inr (seen, keeps)) = (u, seen_of u earlier seen, leads)

  led_made : (event : RootEvent) (earlier : List RootEvent) (v w : TreeState) → IsDurable (StateDependsOn (ignored_after start earlier)) v → EnsuresOneCrashState v event → IsTransition v event w → EachCrashLeavesStateOf (ignored_after start (event ∷ earlier)) (files_of w) w
  led_made (Ends run) earlier v w is_durable makes (is_run, ends) =
      made_one facts (ignored_after start earlier) v run is_run (after_hides start off earlier) is_durable w ends makes
  led_made (Stops run) earlier v w is_durable makes leads = absurd makes
  led_made Crashes earlier v w is_durable makes crash = facts.crash_settled nothing_ignored v w crash
  led_made Edits earlier v w is_durable makes synced = facts.crash_settled nothing_ignored w w (as_crash facts w synced)
  led_made (Touches theirs) earlier v w is_durable makes touch = absurd makes

  led_kept : (event : RootEvent) (earlier : List RootEvent) (v w : TreeState) → IsDurable (StateDependsOn (ignored_after start earlier)) v → EachCrashLeavesStateOf (ignored_after start earlier) (files_of v) v → PreservesOneCrashState v event → IsTransition v event w
      → EachCrashLeavesStateOf (ignored_after start (event ∷ earlier)) (files_of w) w
  led_kept (Ends run) earlier v w is_durable one keeps (is_run, ends) =
      kept_one facts (ignored_after start earlier) v run is_run (after_hides start off earlier) is_durable w one ends keeps
  led_kept (Stops run) earlier v w is_durable one keeps (is_run, (m, moment, torn)) =
      stopped_one facts (ignored_after start earlier) v run is_run (after_hides start off earlier) is_durable w one m moment torn keeps
  led_kept Crashes earlier v w is_durable one keeps crash = facts.crash_settled nothing_ignored v w crash
  led_kept Edits earlier v w is_durable one keeps synced = facts.crash_settled nothing_ignored w w (as_crash facts w synced)
  led_kept (Touches theirs) earlier v w is_durable one keeps touch =
      let before = ignored_after start earlier in
      let names = touched_outside_journal_or_ignored theirs before in
      own_settled facts names (files_of v) w
      (settled_on names (files_of v) v w (facts.more_settled before names (files_of v) v (touched_more theirs before) one) (touch_quiet theirs v w touch before))

  order_of : (v : TreeState) (events : List RootEvent) → Reaches first events v → IsDurable (StateDependsOn (ignored_after start events)) v
  order_of v events seen = seen_durable facts start off first v events rest.is_durable seen

  seen_settled : (v : TreeState) (events : List RootEvent) → ReachesOneCrashState first events v → EachCrashLeavesStateOf (ignored_after start events) (files_of v) v
  seen_settled v [] is = subst (λ (u : TreeState). EachCrashLeavesStateOf start (files_of u) u) (sym is) rest.settled
  seen_settled v (event ∷ earlier) (u, leads, inl (seen, makes)) = led_made event earlier u v (order_of u earlier seen) makes leads
  seen_settled v (event ∷ earlier) (u, leads, inr (seen, keeps)) =
      led_kept event earlier u v (order_of u earlier (seen_of u earlier seen)) (seen_settled u earlier seen) keeps leads

  pub seen_one : (v : TreeState) (events : List RootEvent) → ReachesOneCrashState first events v → IsDurableAndLeavesFiles (ignored_after start events) (files_of v) v
  seen_one v events seen = record { is_durable = order_of v events (seen_of v events seen); settled = seen_settled v events seen }

  pub seen_atomic : (v : TreeState) (events : List RootEvent) → ReachesOneCrashState first events v → (run : Run) → IsRunFrom v run → IsAtomic (ignored_after start events) v run
  seen_atomic v events seen run is_run =
      let here = seen_one v events seen in
      atomic facts (ignored_after start events) v run is_run (after_hides start off events) here.is_durable here.settled

-- a list whose runs end, or are cut off by a crash, keeps one state
pub unbroken : (first v : TreeState) (events : List RootEvent) → Reaches first events v → HasNoUnfinishedRunSinceCrash events → ReachesOneCrashState first events v
unbroken first v [] is none = is
unbroken first v (Ends run ∷ earlier) (u, seen, leads) (fault, before) = (u, leads, inr (unbroken first u earlier seen before, inl fault))
unbroken first v (Stops run ∷ earlier) seen none = absurd none
unbroken first v (Crashes ∷ earlier) (u, seen, leads) none = (u, leads, inl (seen, tt))
unbroken first v (Edits ∷ earlier) (u, seen, leads) none = (u, leads, inl (seen, tt))
unbroken first v (Touches theirs ∷ earlier) (u, seen, leads) none = (u, leads, inr (unbroken first u earlier seen none, tt))
