-- What a run leaves that recovers and commits nothing.
use Rattle.std.proofs.Common.{◌≡◌, ℕ, true, false, List, Option, None, Result, Ok, Err, ap, subst, ◌∙◌}
use Rattle.apk_front.specs.Moments.{IsOkRefusedOrOutputFault, HasOutcomeWithoutCommit}
use Rattle.base_core.specs.Calls.{HoldsNow}
use Rattle.base_core.specs.Files.{Files}
use Rattle.base_core.specs.Tree.{TreeState, files_of}
use Rattle.base_core.specs.declared.cause.Cause.{Cause}
use Rattle.command_core.specs.Command.{CommandLine}
use Rattle.command_core.specs.declared.command.Applet.{Applet}
use Rattle.command_core.specs.declared.command.Applet.TheVariants.{Demo}
use Rattle.apk_front.specs.journal_core.Staged.{unstaged_files}
use Rattle.apk_front.specs.outcome.Commands.{IsOutcomeWithoutDemo, IsOutcomeOverRecoveredFiles, IsOutcomeUnlessBadIntent}
use Rattle.apk_front.specs.outcome.Effect.{does_recover, effect_of_arguments, effect_of}
use Rattle.apk_front.specs.outcome.Outcome.{Outcome}
use Rattle.apk_front.specs.outcome.Words.{IsOutcome, IsOutcomeOfAppletIncludingRecovery}
use Rattle.apk_front.specs.outcome.Work.{recovery_fault, files_recovered_if_needed}
use Rattle.apk_front.proofs.outcome.Recovering.{work_is}
use Rattle.apk_front.specs.words_core.Grammar.{command_of}
use Rattle.run_lists.specs.Events.{IsOutcomeFrom, IsRunFrom, Run}
use Rattle.run_lists.proofs.AtMoments.{now_map}
use Rattle.run_lists.proofs.OneRun.{told}

-- `demo` does not recover
other_than_demo : (applet : Applet) (command : CommandLine) (files : Files) (o : Outcome) → does_recover (effect_of applet) ≡ true → IsOutcomeOfAppletIncludingRecovery applet command files o → IsOutcomeWithoutDemo (Ok command) files o
other_than_demo Demo command files o recovers one = cc
other_than_demo other command files o recovers one = one

module _ (idle_leaves : (command : CommandLine) (files : Files) (o : Outcome) → IsOutcomeOverRecoveredFiles command files o → o.commits ≡ false → o.files ≡ files) (unique : (words : List (List ℕ)) (files : Files) (a b : Outcome) → IsOutcome (command_of words) files a → IsOutcome (command_of words) files b → a ≡ b) where
  recovers_by : (command : Result CommandLine ℕ) (files : Files) (o : Outcome) → IsOutcome command files o → does_recover (effect_of_arguments command) ≡ true → recovery_fault (effect_of_arguments command) files ≡ None → o.commits ≡ false → o.files ≡ unstaged_files files
  recovers_by (Err place) files o is recovers none idle = cc
  recovers_by (Ok command) files o is recovers none idle =
      let over : IsOutcomeOverRecoveredFiles command (files_recovered_if_needed (effect_of command.applet) files) o = subst (λ (c : Option Cause). IsOutcomeUnlessBadIntent c command files o) none (other_than_demo command.applet command files o recovers is) in
      idle_leaves command (files_recovered_if_needed (effect_of command.applet) files) o over idle ∙ work_is (effect_of command.applet) files recovers

  pub recovered : (v : TreeState) (run : Run) → IsRunFrom v run → does_recover (effect_of_arguments (command_of run.words)) ≡ true → recovery_fault (effect_of_arguments (command_of run.words)) (files_of v) ≡ None
      → IsOkRefusedOrOutputFault run.answer → HasOutcomeWithoutCommit (IsOutcomeFrom v run) → HoldsNow run.now (λ w. files_of w ≡ unstaged_files (files_of v))
  recovered v run is_run recovers none answers (p, one, idle) =
      let t = told (IsOutcomeFrom v run) (unique run.words (files_of v)) _ _ run.answer run.out run.err is_run.stated answers in
      let commits : t.0.commits ≡ false = ap (λ (o : Outcome). o.commits) (unique run.words (files_of v) t.0 p t.1 one) ∙ idle in
      let files : t.0.files ≡ unstaged_files (files_of v) = recovers_by (command_of run.words) (files_of v) t.0 t.1 recovers none commits in
      now_map run.now (λ w. files_of w ≡ t.0.files) (λ w. files_of w ≡ unstaged_files (files_of v)) (λ w is. is ∙ files) t.3
