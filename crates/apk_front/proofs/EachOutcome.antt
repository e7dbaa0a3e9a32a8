-- What is said of one outcome of a command line is so of each.
use Rattle.std.proofs.Common.{◌≡◌, inl, inr, ℕ, Bool, true, false, List, [], ◌∷◌, None, subst}
use Rattle.std.specs.Prelude.{is_some, All}
use Rattle.std.proofs.lemmas.List.Elements.{All-nil, All-cons, All-weaker}
use Rattle.base_core.specs.Calls.{HoldsNow}
use Rattle.base_core.specs.Crash.{Since}
use Rattle.base_core.specs.Files.{Files}
use Rattle.base_core.specs.Restart.{EachMoment}
use Rattle.base_core.specs.Tree.{TreeState, files_of}
use Rattle.journal_core.specs.Quiet.{EachCrashLeavesOld, StateIsUnchanged}
use Rattle.journal_core.specs.Recovery.{EachCrashLeavesOldOrNew, EachCrashLeavesStateOf}
use Rattle.journal_core.specs.Replacing.{IsMomentOfReplacing}
use Rattle.journal_core.specs.Staged.{IsOldUntilCommit}
use Rattle.outcome.specs.Words.{IsOutcome}
use Rattle.outcome.specs.Effect.{Effect, effect_of_arguments, output}
use Rattle.outcome.specs.Outcome.{Outcome}
use Rattle.words_core.specs.Grammar.{command_of}
use Rattle.apk_front.specs.Moments.{MomentsOfMakingOrChangeLeadToFiles, AreStatesOldOrLeadToOutcome, IsOkOrOutputFault, LeavesDurableFilesIfRequiredOnceAnswered, CommitsRecoversIntentOrCrashesLeaveAsRead}
use Rattle.apk_front.specs.declared.answer.Answer.{Answer}
use Rattle.apk_front.specs.declared.answer.Answer.TheVariants.{Ok, Refused, TreeFault, OutFault, Memory}

abbrev pub IsUnique : Type 0
IsUnique = (words : List (List ℕ)) (files : Files) (a b : Outcome) → IsOutcome (command_of words) files a → IsOutcome (command_of words) files b → a ≡ b

abbrev pub QuietIsOld : Type 0
QuietIsOld = (ignored : List ℕ → Bool) (a b : TreeState) (new : Files) → EachCrashLeavesOld ignored a b → EachCrashLeavesOldOrNew ignored a new b

-- ---- moments

still_replaces : QuietIsOld → (ignored : List ℕ → Bool) (files : Files) (v w : TreeState) → StateIsUnchanged ignored v w → IsMomentOfReplacing ignored files v w
still_replaces law ignored files v w is_unchanged = record { is_durable = is_unchanged.is_durable; old_or_new = law ignored v w files is_unchanged.quiet; made = is_unchanged.made }

each_replaces : (ignored : List ℕ → Bool) (files : Files) (v : TreeState) (added : List TreeState) → EachMoment (IsOldUntilCommit ignored files v) added → All (IsMomentOfReplacing ignored files v) added
each_replaces ignored files v [] each = All-nil (IsMomentOfReplacing ignored files v)
each_replaces ignored files v (w ∷ added) (here, earlier) =
    All-cons (IsMomentOfReplacing ignored files v) w added (record { is_durable = here.is_durable; old_or_new = here.old_or_new; made = here.made }) (each_replaces ignored files v added earlier)

way_replaces : (makes : Bool) (ignored : List ℕ → Bool) (files : Files) (v : TreeState) (old now : List TreeState) → MomentsOfMakingOrChangeLeadToFiles makes ignored files v old now → Since (IsMomentOfReplacing ignored files v) old now
way_replaces true ignored files v old now way = way
way_replaces false ignored files v old now way = record { added = way.added; is = way.is; each = each_replaces ignored files v way.added way.each }

pub safe_for_each : IsUnique → QuietIsOld → (words : List (List ℕ)) (ignored : List ℕ → Bool) (v : TreeState) (outcome : Outcome) (old now : List TreeState)
    → AreStatesOldOrLeadToOutcome (IsOutcome (command_of words) (files_of v)) (is_some (output words)) ignored v old now → IsOutcome (command_of words) (files_of v) outcome → Since (IsMomentOfReplacing ignored outcome.files v) old now
safe_for_each unique law words ignored v outcome old now (inl is_unchanged) one = record {
  added = is_unchanged.added;
  is = is_unchanged.is;
  each = All-weaker (StateIsUnchanged ignored v) (IsMomentOfReplacing ignored outcome.files v) (still_replaces law ignored outcome.files v) is_unchanged.added is_unchanged.each;
}
safe_for_each unique law words ignored v outcome old now (inr (o, its, commits, way)) one =
    subst (λ (x : Outcome). Since (IsMomentOfReplacing ignored x.files v) old now) (unique words (files_of v) o outcome its one) (way_replaces (is_some (output words)) ignored o.files v old now way)

-- ---- what lasts

lasts_for : (effect : Effect) (ignored : List ℕ → Bool) (v : TreeState) (o outcome : Outcome) (now : List TreeState) → o ≡ outcome → CommitsRecoversIntentOrCrashesLeaveAsRead effect ignored v outcome → (CommitsRecoversIntentOrCrashesLeaveAsRead effect ignored v o → HoldsNow now (EachCrashLeavesStateOf ignored o.files))
    → HoldsNow now (EachCrashLeavesStateOf ignored outcome.files)
lasts_for effect ignored v o outcome now same settles last = subst (λ (x : Outcome). (CommitsRecoversIntentOrCrashesLeaveAsRead effect ignored v x → HoldsNow now (EachCrashLeavesStateOf ignored x.files))) same last settles

pub lasting_for_each : IsUnique → (words : List (List ℕ)) (ignored : List ℕ → Bool) (v : TreeState) (outcome : Outcome) (now : List TreeState) (answer : Answer)
    → LeavesDurableFilesIfRequiredOnceAnswered (IsOutcome (command_of words) (files_of v)) (effect_of_arguments (command_of words)) ignored v now answer → IsOkOrOutputFault answer → IsOutcome (command_of words) (files_of v) outcome → outcome.refusal ≡ None
    → CommitsRecoversIntentOrCrashesLeaveAsRead (effect_of_arguments (command_of words)) ignored v outcome → HoldsNow now (EachCrashLeavesStateOf ignored outcome.files)
lasting_for_each unique words ignored v outcome now Ok (o, its, its_none, last) carried one none settles =
    lasts_for (effect_of_arguments (command_of words)) ignored v o outcome now (unique words (files_of v) o outcome its one) settles last
lasting_for_each unique words ignored v outcome now OutFault (o, its, last) carried one none settles =
    lasts_for (effect_of_arguments (command_of words)) ignored v o outcome now (unique words (files_of v) o outcome its one) settles last
lasting_for_each unique words ignored v outcome now (Refused r) lasting carried one none settles = absurd carried
lasting_for_each unique words ignored v outcome now TreeFault lasting carried one none settles = absurd carried
lasting_for_each unique words ignored v outcome now Memory lasting carried one none settles = absurd carried
