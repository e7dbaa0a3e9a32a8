-- What a run that ends leaves of the order of a tree, and of its one state.
use Rattle.std.proofs.Common.{◌≡◌, inl, inr, ℕ, Bool, true, false, List, Option, None, Some, refl, sym, ap, subst, ◌∙◌}
use Rattle.std.specs.Prelude.{is_some, not}
use Rattle.std.proofs.lemmas.Bool.{false≢true}
use Rattle.apk_front.specs.Moments.{IsOkRefusedOrOutputFault, IsRefusedOutOfMemoryOrCommitsNothing, IsDurableAndLeavesFiles, ignored_except_output_and_scratch}
use Rattle.apk_front.specs.declared.answer.Answer.{Answer}
use Rattle.apk_front.specs.declared.answer.Answer.TheVariants.{Ok as Done, Refused, TreeFault, OutFault, Memory}
use Rattle.apk_front.proofs.Carried.{no_refusal}
use Rattle.base_core.specs.Calls.{HoldsNow}
use Rattle.base_core.specs.Undone.{IsDurable}
use Rattle.base_core.specs.Files.{Files}
use Rattle.base_core.specs.Tree.{TreeState, files_of}
use Rattle.apk_front.specs.journal_core.Quiet.{StateIsUnchanged}
use Rattle.apk_front.specs.journal_core.Recovery.{StateDependsOn, intent_name}
use Rattle.apk_front.specs.outcome.Effect.{output}
use Rattle.apk_front.specs.outcome.Outcome.{Outcome}
use Rattle.report_core.specs.declared.refusal.Refusal.{Refusal}
use Rattle.apk_front.specs.words_core.Grammar.{command_of}
use Rattle.run_lists.specs.Events.{HasOutcomeThatCommits, IsRunWithoutCommit, IsOutcomeFrom, IsRunFrom, Run, ignored_after_answer, ignored_during_run}
use Rattle.run_lists.specs.Safety.{AnswersOutcomeAndLeavesItsFiles}
use Rattle.run_lists.proofs.AtMoments.{now_at}
use Rattle.run_lists.proofs.Facts.{AreMore, Facts, Ignored}
use Rattle.run_lists.proofs.Names.{but_fewer, output_makes}
use Rattle.run_lists.proofs.OneRun.{Told, answered, idle_end}

done_not_refused : (o : Outcome) → Told Done o → o.refusal ≡ None
done_not_refused o (inl is) = no_refusal o.refusal is
done_not_refused o (inr is) = cc

-- What is said of ignored names and of a state: it holds at rest, and for more names.
pub record Resting (Q : Ignored → TreeState → Type 0) : Type 0 where
  pub rest : (names : Ignored) (files : Files) (w : TreeState) → files_of w ≡ files → IsDurableAndLeavesFiles names files w → Q names w
  pub more : (few many : Ignored) (w : TreeState) → AreMore few many → Q few w → Q many w

module _ (facts : Facts) (ignored : Ignored) (v : TreeState) (run : Run) (is_run : IsRunFrom v run) (hidden : ignored intent_name ≡ false) (is_durable : IsDurable (StateDependsOn ignored) v)
    (Q : Ignored → TreeState → Type 0) (resting : Resting Q) (w : TreeState) (ends : HoldsNow run.now (λ u. u ≡ w)) where
  pub leaves : IsOkRefusedOrOutputFault run.answer → AnswersOutcomeAndLeavesItsFiles ignored v run w
  leaves answers = now_at run.now (AnswersOutcomeAndLeavesItsFiles ignored v run) w (answered facts ignored v run is_run hidden is_durable answers) ends

  rests_by : (answer : Answer) → IsOkRefusedOrOutputFault answer → Q (ignored_except_output_and_scratch (output run.words) ignored) w → Q (ignored_after_answer answer run ignored) w
  rests_by Done answers q = q
  rests_by (Refused r) answers q = resting.more (ignored_except_output_and_scratch (output run.words) ignored) ignored w (but_fewer (output run.words) ignored) q
  rests_by OutFault answers q = resting.more (ignored_except_output_and_scratch (output run.words) ignored) ignored w (but_fewer (output run.words) ignored) q
  rests_by TreeFault answers q = absurd answers
  rests_by Memory answers q = absurd answers

  pub written : (l : AnswersOutcomeAndLeavesItsFiles ignored v run w) → l.outcome.commits ≡ true → Q (ignored_except_output_and_scratch (output run.words) ignored) w
  written l commits = resting.rest (ignored_except_output_and_scratch (output run.words) ignored) l.outcome.files w l.reads (l.durable_state commits)

  -- an outcome that commits is at rest
  pub ends_at_rest : IsOkRefusedOrOutputFault run.answer → HasOutcomeThatCommits v run → Q (ignored_after_answer run.answer run ignored) w
  ends_at_rest answers (o, one, commits) =
      let l = leaves answers in
      let same : l.outcome.commits ≡ true = ap (λ (x : Outcome). x.commits) (facts.unique run.words (files_of v) l.outcome o l.is_outcome one) ∙ commits in
      rests_by run.answer answers (written l same)

  -- what holds at a still moment holds behind a run that ends, unless the tree failed
  module _ (is_unchanged : StateIsUnchanged ignored v w → Q ignored w) where
    left_idle : IsRunWithoutCommit v run → Q ignored w
    left_idle idle = is_unchanged (idle_end ignored v run is_run is_durable idle w ends)

    -- a maker's outcome commits where it is no refusal
    no_output : (o : Option (List ℕ)) → output run.words ≡ o → (outcome : Outcome) → IsOutcomeFrom v run outcome → outcome.refusal ≡ None → outcome.commits ≡ false → Q ignored w → Q (ignored_except_output_and_scratch (output run.words) ignored) w
    no_output None is outcome one none idle q = subst (λ (o : Option (List ℕ)). Q (ignored_except_output_and_scratch o ignored) w) (sym is) q
    no_output (Some name) is outcome one none idle q =
        absurd (false≢true (sym idle ∙ facts.making run.words (files_of v) outcome (output_makes (command_of run.words) name is) one ∙ ap (λ (r : Option Refusal). not (is_some r)) none))

    done_by : run.answer ≡ Done → (l : AnswersOutcomeAndLeavesItsFiles ignored v run w) → (b : Bool) → l.outcome.commits ≡ b → Q (ignored_except_output_and_scratch (output run.words) ignored) w
    done_by is l true commits = written l commits
    done_by is l false idle =
        no_output (output run.words) refl l.outcome l.is_outcome (done_not_refused l.outcome (subst (λ (a : Answer). Told a l.outcome) is l.answered)) idle (left_idle (inl (inr (l.outcome, l.is_outcome, idle))))

    out_by : (l : AnswersOutcomeAndLeavesItsFiles ignored v run w) → (b : Bool) → l.outcome.commits ≡ b → Q ignored w
    out_by l true commits = resting.more (ignored_except_output_and_scratch (output run.words) ignored) ignored w (but_fewer (output run.words) ignored) (written l commits)
    out_by l false idle = left_idle (inl (inr (l.outcome, l.is_outcome, idle)))

    ends_by : (answer : Answer) → run.answer ≡ answer → (run.answer ≡ TreeFault → Q (ignored_during_run run ignored) w) → Q (ignored_after_answer answer run ignored) w
    ends_by Done is fault = let l = leaves (subst IsOkRefusedOrOutputFault (sym is) tt) in done_by is l l.outcome.commits refl
    ends_by (Refused r) is fault = left_idle (inl (subst (IsRefusedOutOfMemoryOrCommitsNothing (IsOutcomeFrom v run)) (sym is) (inl tt)))
    ends_by TreeFault is fault = fault is
    ends_by OutFault is fault = let l = leaves (subst IsOkRefusedOrOutputFault (sym is) tt) in out_by l l.outcome.commits refl
    ends_by Memory is fault = left_idle (inl (subst (IsRefusedOutOfMemoryOrCommitsNothing (IsOutcomeFrom v run)) (sym is) (inl tt)))

    pub ends_so : (run.answer ≡ TreeFault → Q (ignored_during_run run ignored) w) → Q (ignored_after_answer run.answer run ignored) w
    ends_so = ends_by run.answer refl
