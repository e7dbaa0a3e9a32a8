-- A run from a durable tree is safe, and from one state it is all or nothing.
use Rattle.std.proofs.Common.{◌≡◌, ◌⊎◌, inl, inr, ⊎_elim, ℕ, true, false, List, Option, refl, sym, subst, ◌∙◌, arith}
use Rattle.std.specs.Prelude.{is_some}
use Rattle.apk_front.specs.Answers.{IsAnswerOfSomeOutcomeOrFailure, answer_of}
use Rattle.apk_front.specs.Moments.{IsOkRefusedOrOutputFault, AreStatesOldOrLeadToOutcome, IgnoresOutputScratchNameButNotIntent, IsDurableAndLeavesFiles, LeavesDurableStateAndOutputIfCommitted, LeavesDurableFilesIfRequiredOnceAnswered, CommitsRecoversIntentOrCrashesLeaveAsRead, ignored_except_output_and_scratch}
use Rattle.apk_front.specs.declared.answer.Answer.{Answer}
use Rattle.apk_front.specs.declared.answer.Answer.TheVariants.{Ok as Done, Refused, TreeFault, OutFault, Memory}
use Rattle.base_core.specs.Calls.{HoldsNow}
use Rattle.base_core.specs.Crash.{Since}
use Rattle.base_core.specs.Undone.{IsDurable, IsCrashImage}
use Rattle.base_core.specs.Files.{Files}
use Rattle.base_core.specs.Sink.{SinkBeforeAndAfter}
use Rattle.base_core.specs.Tree.{TreeState, files_of}
use Rattle.apk_front.specs.journal_core.Quiet.{EachCrashLeavesOld, StateIsUnchanged}
use Rattle.apk_front.specs.journal_core.Recovery.{EachCrashLeavesStateOf, StateDependsOn, intent_name}
use Rattle.apk_front.specs.journal_core.Replacing.{IsMomentOfReplacing}
use Rattle.apk_front.specs.outcome.Effect.{Effect, effect_of_arguments, output}
use Rattle.apk_front.specs.outcome.Outcome.{Outcome}
use Rattle.apk_front.specs.words_core.Grammar.{command_of}
use Rattle.run_lists.specs.Events.{HasOutcomeThatCommits, IsRunWithoutCommit, IsMomentOf, IsOutcomeFrom, IsRunFrom, Run, ignored_during_run, ignored_with_scratch}
use Rattle.run_lists.specs.Safety.{HasStateAsReadOrOutcome, IsAtomic, LeavesOldOrOutcome, IsCrashSafeRun, AnswersOutcomeAndLeavesItsFiles}
use Rattle.run_lists.proofs.AtMoments.{History, at_last, at_moment, now_at, now_map, now_under, now_with}
use Rattle.run_lists.proofs.Facts.{Facts, Ignored}
use Rattle.run_lists.proofs.Names.{but_same, hides, scratch_more}

-- ---- states

pub quiet_self : (ignored : Ignored) (v : TreeState) → EachCrashLeavesOld ignored v v
quiet_self ignored v image is = (image, is, refl)

pub settled_on : (ignored : Ignored) (files : Files) (v m : TreeState) → EachCrashLeavesStateOf ignored files v → EachCrashLeavesOld ignored v m → EachCrashLeavesStateOf ignored files m
settled_on ignored files v m settled quiet image is = let was = quiet image is in was.2 ∙ settled was.0 was.1

pub still_self : (ignored : Ignored) (v : TreeState) → IsDurable (StateDependsOn ignored) v → StateIsUnchanged ignored v v
still_self ignored v is_durable = record { is_durable = is_durable; quiet = quiet_self ignored v; reads = refl; made = omega arith }

pub more_durable : Facts → (o : Option (List ℕ)) (ignored : Ignored) (v : TreeState) → IsDurable (StateDependsOn ignored) v → IsDurable (StateDependsOn (ignored_with_scratch o ignored)) v
more_durable facts o ignored v is_durable = facts.more_order ignored (ignored_with_scratch o ignored) v (scratch_more o ignored) is_durable

pub at_rest_fewer : Facts → (o : Option (List ℕ)) (ignored : Ignored) (files : Files) (w : TreeState) → IsDurableAndLeavesFiles (ignored_except_output_and_scratch o (ignored_with_scratch o ignored)) files w → IsDurableAndLeavesFiles (ignored_except_output_and_scratch o ignored) files w
at_rest_fewer facts o ignored files w rest = record {
  is_durable = facts.more_order (ignored_except_output_and_scratch o (ignored_with_scratch o ignored)) (ignored_except_output_and_scratch o ignored) w (but_same o ignored) rest.is_durable;
  settled = facts.more_settled (ignored_except_output_and_scratch o (ignored_with_scratch o ignored)) (ignored_except_output_and_scratch o ignored) files w (but_same o ignored) rest.settled;
}

-- ---- a run that commits nothing

module _ (ignored : Ignored) (v : TreeState) (run : Run) (is_run : IsRunFrom v run) (is_durable : IsDurable (StateDependsOn ignored) v) where
  uncommitted : (HasOutcomeThatCommits v run → ⊥) → AreStatesOldOrLeadToOutcome (IsOutcomeFrom v run) (is_some (output run.words)) ignored v run.old run.now → Since (StateIsUnchanged ignored v) run.old run.now
  uncommitted never (inl is_unchanged) = is_unchanged
  uncommitted never (inr (o, one, commits, way)) = absurd (never (o, one, commits))

  idle_still : IsRunWithoutCommit v run → Since (StateIsUnchanged ignored v) run.old run.now
  idle_still (inl none) = is_run.left none ignored is_durable
  idle_still (inr (none, never)) = uncommitted never (is_run.crash ignored is_durable (subst (λ (o : Option (List ℕ)). IgnoresOutputScratchNameButNotIntent o ignored) (sym none) tt))

  pub idle_moment : IsRunWithoutCommit v run → (m : TreeState) → IsMomentOf run m → StateIsUnchanged ignored v m
  idle_moment idle m moment = at_moment (StateIsUnchanged ignored v) run v m is_run.begins (still_self ignored v is_durable) (idle_still idle) moment

  pub idle_end : IsRunWithoutCommit v run → (w : TreeState) → HoldsNow run.now (λ u. u ≡ w) → StateIsUnchanged ignored v w
  idle_end idle w ends = now_at run.now (StateIsUnchanged ignored v) w (at_last (StateIsUnchanged ignored v) run.old run.now v is_run.begins (still_self ignored v is_durable) (idle_still idle)) ends

-- ---- the answer

abbrev pub Told : Answer → Outcome → Type 0
Told answer outcome = (answer ≡ answer_of outcome) ⊎ (answer ≡ OutFault)

module _ (IsOne : Outcome → Type 0) (unique : (a b : Outcome) → IsOne a → IsOne b → a ≡ b) where
  pub told : (Leaves : Outcome → Type 0) (failed : Type 0) (answer : Answer) (out err : SinkBeforeAndAfter) → IsAnswerOfSomeOutcomeOrFailure IsOne Leaves failed answer out err → IsOkRefusedOrOutputFault answer
      → (o : Outcome) × IsOne o × Told answer o × Leaves o
  told Leaves failed Done out err is answers = (is.0, is.1, inl is.2.same, is.3)
  told Leaves failed (Refused r) out err is answers = (is.0, is.1, inl is.2.same, is.3)
  told Leaves failed OutFault out err is answers = (is.0, is.1, inr refl, is.3)
  told Leaves failed TreeFault out err is answers = absurd answers
  told Leaves failed Memory out err is answers = absurd answers

  module _ (effect : Effect) (ignored : Ignored) (v : TreeState) (now : History) where
    lasts_for : (o p : Outcome) → o ≡ p → (CommitsRecoversIntentOrCrashesLeaveAsRead effect ignored v o → HoldsNow now (EachCrashLeavesStateOf ignored o.files)) → CommitsRecoversIntentOrCrashesLeaveAsRead effect ignored v p → HoldsNow now (EachCrashLeavesStateOf ignored p.files)
    lasts_for o p same last = subst (λ (x : Outcome). (CommitsRecoversIntentOrCrashesLeaveAsRead effect ignored v x → HoldsNow now (EachCrashLeavesStateOf ignored x.files))) same last

    pub lasts : (answer : Answer) → LeavesDurableFilesIfRequiredOnceAnswered IsOne effect ignored v now answer → IsOkRefusedOrOutputFault answer → (p : Outcome) → IsOne p → CommitsRecoversIntentOrCrashesLeaveAsRead effect ignored v p → HoldsNow now (EachCrashLeavesStateOf ignored p.files)
    lasts Done is answers p one = lasts_for is.0 p (unique is.0 p is.1 one) is.3
    lasts (Refused r) is answers p one = lasts_for is.0 p (unique is.0 p is.1 one) is.3
    lasts OutFault is answers p one = lasts_for is.0 p (unique is.0 p is.1 one) is.2
    lasts TreeFault is answers p one = absurd answers
    lasts Memory is answers p one = absurd answers

  pub rests : (o : Option (List ℕ)) (ignored : Ignored) (now : History) → LeavesDurableStateAndOutputIfCommitted IsOne o ignored now → (p : Outcome) → IsOne p → p.commits ≡ true → HoldsNow now (IsDurableAndLeavesFiles (ignored_except_output_and_scratch o ignored) p.files)
  rests o ignored now is p one =
      subst (λ (x : Outcome). (x.commits ≡ true → HoldsNow now (IsDurableAndLeavesFiles (ignored_except_output_and_scratch o ignored) x.files))) (unique is.0 p is.1 one) is.2

-- ---- safe

module _ (facts : Facts) (ignored : Ignored) (v : TreeState) (run : Run) (is_run : IsRunFrom v run) (hidden : ignored intent_name ≡ false) (is_durable : IsDurable (StateDependsOn ignored) v) where
  abbrev Now : Ignored
  Now = ignored_during_run run ignored

  pub now_durable : IsDurable (StateDependsOn Now) v
  now_durable = more_durable facts (output run.words) ignored v is_durable

  pub now_hides : IgnoresOutputScratchNameButNotIntent (output run.words) Now
  now_hides = hides (output run.words) ignored hidden

  ones : (a b : Outcome) → IsOutcomeFrom v run a → IsOutcomeFrom v run b → a ≡ b
  ones = facts.unique run.words (files_of v)

  pub replacing : (o : Outcome) → IsOutcomeFrom v run o → Since (IsMomentOfReplacing Now o.files v) run.old run.now
  replacing o one = facts.safe run.words Now v o run.old run.now (is_run.crash Now now_durable now_hides) one

  either : AreStatesOldOrLeadToOutcome (IsOutcomeFrom v run) (is_some (output run.words)) Now v run.old run.now → (m : TreeState) → IsMomentOf run m → LeavesOldOrOutcome Now v run m
  either (inl is_unchanged) m moment = inl (at_moment (StateIsUnchanged Now v) run v m is_run.begins (still_self Now v now_durable) is_unchanged moment).quiet
  either (inr (o, one, commits, way)) m moment =
      at_moment_either o one commits m moment
    where
      at_moment_either : (o : Outcome) → IsOutcomeFrom v run o → o.commits ≡ true → (m : TreeState) → IsMomentOf run m → LeavesOldOrOutcome Now v run m
      at_moment_either o one commits m moment = inr (o, one, commits, (at_moment (IsMomentOfReplacing Now o.files v) run v m is_run.begins (record { is_durable = now_durable; old_or_new = λ image is. inl (image, is, refl); made = omega arith }) (replacing o one) moment).old_or_new)

  pub durable_at : AreStatesOldOrLeadToOutcome (IsOutcomeFrom v run) (is_some (output run.words)) Now v run.old run.now → (m : TreeState) → IsMomentOf run m → IsDurable (StateDependsOn Now) m
  durable_at (inl is_unchanged) m moment = (at_moment (StateIsUnchanged Now v) run v m is_run.begins (still_self Now v now_durable) is_unchanged moment).is_durable
  durable_at (inr (o, one, commits, way)) m moment =
      (at_moment (IsMomentOfReplacing Now o.files v) run v m is_run.begins (record { is_durable = now_durable; old_or_new = λ image is. inl (image, is, refl); made = omega arith }) (replacing o one) moment).is_durable

  -- the outcome that was answered, and what holds of the last state
  pub answered : IsOkRefusedOrOutputFault run.answer → HoldsNow run.now (AnswersOutcomeAndLeavesItsFiles ignored v run)
  answered answers =
      let t = told (IsOutcomeFrom v run) ones _ _ run.answer run.out run.err is_run.stated answers in
      with_outcome t.0 t.1 t.2 t.3 answers
    where
      with_outcome : (o : Outcome) → IsOutcomeFrom v run o → Told run.answer o → HoldsNow run.now (λ w. files_of w ≡ o.files) → IsOkRefusedOrOutputFault run.answer → HoldsNow run.now (AnswersOutcomeAndLeavesItsFiles ignored v run)
      with_outcome o one was reads answers =
          now_with run.now (λ w. files_of w ≡ o.files)
          (λ w. (CommitsRecoversIntentOrCrashesLeaveAsRead (effect_of_arguments (command_of run.words)) Now v o → EachCrashLeavesStateOf Now o.files w) × (o.commits ≡ true → IsDurableAndLeavesFiles (ignored_except_output_and_scratch (output run.words) ignored) o.files w))
          (AnswersOutcomeAndLeavesItsFiles ignored v run)
          (λ w read last. record { outcome = o; is_outcome = one; answered = was; reads = read; settled = last.0; durable_state = last.1 })
          reads
          (now_with run.now
          (λ w. CommitsRecoversIntentOrCrashesLeaveAsRead (effect_of_arguments (command_of run.words)) Now v o → EachCrashLeavesStateOf Now o.files w)
          (λ w. o.commits ≡ true → IsDurableAndLeavesFiles (ignored_except_output_and_scratch (output run.words) ignored) o.files w)
          (λ w. (CommitsRecoversIntentOrCrashesLeaveAsRead (effect_of_arguments (command_of run.words)) Now v o → EachCrashLeavesStateOf Now o.files w) × (o.commits ≡ true → IsDurableAndLeavesFiles (ignored_except_output_and_scratch (output run.words) ignored) o.files w))
          (λ w a b. (a, b))
          (now_under run.now (CommitsRecoversIntentOrCrashesLeaveAsRead (effect_of_arguments (command_of run.words)) Now v o) (EachCrashLeavesStateOf Now o.files) (λ w. files_of w ≡ o.files) reads
          (lasts (IsOutcomeFrom v run) ones (effect_of_arguments (command_of run.words)) Now v run.now run.answer (is_run.settled Now now_durable now_hides) answers o one))
          (now_under run.now (o.commits ≡ true) (IsDurableAndLeavesFiles (ignored_except_output_and_scratch (output run.words) ignored) o.files) (λ w. files_of w ≡ o.files) reads
          (λ commits. now_map run.now (IsDurableAndLeavesFiles (ignored_except_output_and_scratch (output run.words) Now) o.files) (IsDurableAndLeavesFiles (ignored_except_output_and_scratch (output run.words) ignored) o.files)
          (at_rest_fewer facts (output run.words) ignored o.files)
          (rests (IsOutcomeFrom v run) ones (output run.words) Now run.now (is_run.durable_state Now now_durable now_hides answers) o one commits))))

  pub safe : IsCrashSafeRun ignored v run
  safe = record {
    moments = either (is_run.crash Now now_durable now_hides);
    answered = answered;
    left = λ idle m moment. let is_unchanged = idle_moment ignored v run is_run is_durable idle m moment in record { quiet = is_unchanged.quiet; reads = is_unchanged.reads };
  }

  -- ---- all or nothing

  module _ (settled : EachCrashLeavesStateOf ignored (files_of v) v) where
    now_settled : EachCrashLeavesStateOf Now (files_of v) v
    now_settled = facts.more_settled ignored Now (files_of v) v (scratch_more (output run.words) ignored) settled

    one_of_two : (m : TreeState) → LeavesOldOrOutcome Now v run m → (image : Files) → IsCrashImage m image → HasStateAsReadOrOutcome Now v run image
    one_of_two m (inl quiet) image is = inl (settled_on Now (files_of v) v m now_settled quiet image is)
    one_of_two m (inr (o, one, commits, old_or_new)) image is =
        ⊎_elim (λ was. inl (was.2 ∙ now_settled was.0 was.1)) (λ new. inr (o, one, commits, new)) (old_or_new image is)

    pub atomic : IsAtomic ignored v run
    atomic = record {
      moments = λ m moment. one_of_two m (either (is_run.crash Now now_durable now_hides) m moment);
      answered = λ answers o one. lasts (IsOutcomeFrom v run) ones (effect_of_arguments (command_of run.words)) Now v run.now run.answer (is_run.settled Now now_durable now_hides) answers o one (inl (inr now_settled));
      left = λ idle m moment. settled_on ignored (files_of v) v m settled (idle_moment ignored v run is_run is_durable idle m moment).quiet;
    }
