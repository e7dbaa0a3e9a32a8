-- What a run recovers to, at each of its moments.
use Rattle.std.proofs.Common.{◌≡◌, ◌⊎◌, inl, inr, ℕ, true, false, List, [], ◌∷◌, Ok, refl, subst, ◌∙◌}
use Rattle.run_lists.specs.apk_front.Moments.{IsOkRefusedOrOutputFault, IgnoresOutputScratchNameButNotIntent, IsDurableAndLeavesFiles, CommitsRecoversIntentOrCrashesLeaveAsRead}
use Rattle.base_core.specs.Calls.{HoldsNow, IfObservable}
use Rattle.base_core.specs.Undone.{IsDurable, IsCrashImage}
use Rattle.base_core.specs.Files.{Files}
use Rattle.base_core.specs.Tree.{TreeState, files_of}
use Rattle.command_core.specs.Command.{CommandLine}
use Rattle.run_lists.specs.journal_core.Recovery.{EachCrashLeavesStateOf, StateDependsOn, intent_name}
use Rattle.run_lists.proofs.journal_core.More.{states_same}
use Rattle.refusal_laws.specs.outcome.Effect.{Changes, does_recover, effect_of_arguments, effect_of, output}
use Rattle.refusal_laws.specs.outcome.Outcome.{Outcome}
use Rattle.refusal_laws.specs.outcome.Words.{IsOutcome}
use Rattle.refusal_laws.specs.words_core.Grammar.{command_of}
use Rattle.run_lists.specs.Events.{RootEvent, HasNoUnfinishedRunSinceCrash, Reaches, ReachesWithoutCommitOrEdit, ReachesOneCrashState, IsRunWithoutCommit, IsOutcomeFrom, IsRunFrom, IsPossibleStop, Run, ignored_after, ignored_during_run, ignored_with_all_touched, ignored_with_scratch}
use Rattle.run_lists.specs.Recovered.{ReachesWithNoBadIntentPutByOthers, HasStateOfSomeCrashBefore, HasStateOfCrashBeforeOrOutcome, HasSameState, RecoversToStateWithoutRefusal, EachCrashLeavesNoBadIntent}
use Rattle.run_lists.specs.Safety.{HasStateAsReadOrOutcome, IsAtomicFromOneCrashState, IsCrashSafeRun, IsCrashSafeAfterAnyEvents, AnswersOutcomeAndLeavesItsFiles}
use Rattle.run_lists.proofs.AtMoments.{History}
use Rattle.run_lists.proofs.Facts.{AreMore, Ignored}
use Rattle.run_lists.proofs.Moments.{last_moment}
use Rattle.run_lists.proofs.Names.{all_touched_more, scratch_more}
use Rattle.run_lists.proofs.OneRun.{idle_moment}
use Rattle.run_lists.proofs.Recoverable.{before_more, before_or_outcome_more, left_state, recovered_as, seen_plainly, state_on}
use Rattle.run_lists.proofs.Torn.{torn_image, torn_self}
use Rattle.headline.specs.Sentence.{EndsInTrueRefusalOrFirstSelection, HasGoodPast, IsAsPromised, IsAsPromisedAfterAnyEvents, RootRecoversTo}

-- ---- from one moment on

abbrev IsLeftAt : Ignored → TreeState → Type 0
IsLeftAt names m = (w : TreeState) (later : List RootEvent) (next : Run) → ReachesWithoutCommitOrEdit m later w → IsRunFrom w next → does_recover (effect_of_arguments (command_of next.words)) ≡ true
    → (image : Files) × IsCrashImage m image × RecoversToStateWithoutRefusal (HasSameState (ignored_with_all_touched later names) image) w next

-- a property of files that rests on their state alone, apart from some names
record RestsOnState (HasState : Ignored → Files → Type 0) : Type 0 where
  same : (names : Ignored) (a b : Files) → HasSameState names b a → HasState names b → HasState names a
  more : (few many : Ignored) → AreMore few many → (files : Files) → HasState few files → HasState many files

recovers_to : (names : Ignored) (m : TreeState) → IsLeftAt names m → (HasState : Ignored → Files → Type 0) → RestsOnState HasState → ((image : Files) → IsCrashImage m image → HasState names image) → RootRecoversTo HasState names m
recovers_to names m left HasState rests crash = record {
  crash = crash;
  next = λ later w next seen is_run recovers.
      let at = left w later next seen is_run recovers in
      let many = ignored_with_all_touched later names in
      recovered_as (HasSameState many at.0) (HasState many)
      (λ files is. rests.same many files at.0 is (rests.more names many (all_touched_more later names) at.0 (crash at.0 at.1))) w next at.2;
}

state_rests : (files : Files) → RestsOnState (λ names. HasSameState names files)
state_rests files = record { same = λ names a b is has. is ∙ has; more = λ few many more a has. states_same few many more a files has }

before_rests : (v : TreeState) → RestsOnState (λ names. HasStateOfSomeCrashBefore names v)
before_rests v = record { same = λ names a b is has. (has.0, has.1, is ∙ has.2); more = λ few many more. before_more few many v more }

either_rests : (v : TreeState) (run : Run) → RestsOnState (λ names. HasStateOfCrashBeforeOrOutcome names v run)
either_rests v run = record { same = λ names. state_on names v run; more = λ few many more. before_or_outcome_more few many v run more }

old_rests : (v : TreeState) (run : Run) → RestsOnState (λ names. HasStateAsReadOrOutcome names v run)
old_rests v run = record { same = same; more = more }
  where
    same : (names : Ignored) (a b : Files) → HasSameState names b a → HasStateAsReadOrOutcome names v run b → HasStateAsReadOrOutcome names v run a
    same names a b is (inl old) = inl (is ∙ old)
    same names a b is (inr (o, one, commits, new)) = inr (o, one, commits, is ∙ new)

    more : (few many : Ignored) → AreMore few many → (files : Files) → HasStateAsReadOrOutcome few v run files → HasStateAsReadOrOutcome many v run files
    more few many up files (inl old) = inl (states_same few many up files (files_of v) old)
    more few many up files (inr (o, one, commits, new)) = inr (o, one, commits, states_same few many up files o.files new)

now_last : (h : History) (A B : TreeState → Type 0) → ((w : TreeState) → HoldsNow h (λ u. u ≡ w) → A w → B w) → HoldsNow h A → HoldsNow h B
now_last [] A B f a = a
now_last (w ∷ rest) A B f a = f w refl a

-- ---- after a list

module _ (begins : (ignored : Ignored) (first v : TreeState) (events : List RootEvent) (words : List (List ℕ)) → ignored intent_name ≡ false → IsDurable (StateDependsOn ignored) first → Reaches first events v
    → IsDurable (StateDependsOn (ignored_with_scratch (output words) (ignored_after ignored events))) v × IgnoresOutputScratchNameButNotIntent (output words) (ignored_with_scratch (output words) (ignored_after ignored events)))
    (safe : (v : TreeState) (run : Run) → IsRunFrom v run → IsCrashSafeAfterAnyEvents v run)
    (one_state : (ignored : Ignored) (first v : TreeState) (events : List RootEvent) → ignored intent_name ≡ false → IsDurableAndLeavesFiles ignored (files_of first) first → ReachesOneCrashState first events v → IsDurableAndLeavesFiles (ignored_after ignored events) (files_of v) v)
    (unbroken : (first v : TreeState) (events : List RootEvent) → Reaches first events v → HasNoUnfinishedRunSinceCrash events → ReachesOneCrashState first events v)
    (left : (ignored : Ignored) (first v m w : TreeState) (events later : List RootEvent) (run next : Run) → ignored intent_name ≡ false → IsDurable (StateDependsOn ignored) first → EachCrashLeavesNoBadIntent first
    → ReachesWithNoBadIntentPutByOthers first events v → IsRunFrom v run → IsPossibleStop run m → ReachesWithoutCommitOrEdit m later w → IsRunFrom w next → does_recover (effect_of_arguments (command_of next.words)) ≡ true
    → (image : Files) × IsCrashImage m image × RecoversToStateWithoutRefusal (HasSameState (ignored_with_all_touched later (ignored_during_run run (ignored_after ignored events))) image) w next)
    (two : (ignored : Ignored) (v : TreeState) (run : Run) (files : Files) → EachCrashLeavesStateOf ignored (files_of v) v → HasStateOfCrashBeforeOrOutcome ignored v run files → HasStateAsReadOrOutcome ignored v run files)
    (more_settled : (few many : Ignored) (files : Files) (v : TreeState) → AreMore few many → EachCrashLeavesStateOf few files v → EachCrashLeavesStateOf many files v)
    (unique : (words : List (List ℕ)) (files : Files) (a b : Outcome) → IsOutcome (command_of words) files a → IsOutcome (command_of words) files b → a ≡ b)
    (ended : (words : List (List ℕ)) (command : CommandLine) (files : Files) (o : Outcome) → command_of words ≡ Ok command → effect_of command.applet ≡ Changes → IsOutcome (command_of words) files o → EndsInTrueRefusalOrFirstSelection command files o)
    (v : TreeState) (run : Run) (is_run : IsRunFrom v run) (ignored : Ignored) (first : TreeState) (events : List RootEvent) (past : HasGoodPast ignored first events v) where
  abbrev Names : Ignored
  Names = ignored_during_run run (ignored_after ignored events)

  seen : Reaches first events v
  seen = seen_plainly first v events past.seen

  here : IsCrashSafeRun (ignored_after ignored events) v run
  here = safe v run is_run ignored first events past.counts past.durable seen

  durable : IsDurable (StateDependsOn Names) v
  durable = (begins ignored first v events run.words past.counts past.durable seen).0

  left_at : (m : TreeState) → IsPossibleStop run m → IsLeftAt Names m
  left_at m stop w later next idly is_next recovers = left ignored first v m w events later run next past.counts past.durable past.good past.seen is_run stop idly is_next recovers

  either : (m : TreeState) → IsPossibleStop run m → (image : Files) → IsCrashImage m image → HasStateOfCrashBeforeOrOutcome Names v run image
  either m (at, moment, torn) image is = left_state Names v run at (here.moments at moment) image (torn_image at m torn image is)

  moments : (m : TreeState) → IsPossibleStop run m → RootRecoversTo (λ names. HasStateOfCrashBeforeOrOutcome names v run) Names m
  moments m stop = recovers_to Names m (left_at m stop) (λ names. HasStateOfCrashBeforeOrOutcome names v run) (either_rests v run) (either m stop)

  one : EachCrashLeavesStateOf Names (files_of v) v → (m : TreeState) → IsPossibleStop run m → RootRecoversTo (λ names. HasStateAsReadOrOutcome names v run) Names m
  one settled m stop = recovers_to Names m (left_at m stop) (λ names. HasStateAsReadOrOutcome names v run) (old_rests v run) (λ image is. two Names v run image settled (either m stop image is))

  kept : IsRunWithoutCommit v run → (m : TreeState) → IsPossibleStop run m → RootRecoversTo (λ names. HasStateOfSomeCrashBefore names v) Names m
  kept idle m (at, moment, torn) =
      recovers_to Names m (left_at m (at, moment, torn)) (λ names. HasStateOfSomeCrashBefore names v) (before_rests v)
      (λ image is. (idle_moment Names v run is_run durable idle at moment).quiet image (torn_image at m torn image is))

  ends_settled : (o : Outcome) → IsOutcomeFrom v run o → CommitsRecoversIntentOrCrashesLeaveAsRead (effect_of_arguments (command_of run.words)) Names v o → (w : TreeState) → AnswersOutcomeAndLeavesItsFiles (ignored_after ignored events) v run w → EachCrashLeavesStateOf Names o.files w
  ends_settled o is settles w leaves =
      subst (λ (p : Outcome). (CommitsRecoversIntentOrCrashesLeaveAsRead (effect_of_arguments (command_of run.words)) Names v p → EachCrashLeavesStateOf Names p.files w)) (unique run.words (files_of v) leaves.outcome o leaves.is_outcome is) leaves.settled settles

  answered : IsOkRefusedOrOutputFault run.answer → (o : Outcome) → IsOutcomeFrom v run o → CommitsRecoversIntentOrCrashesLeaveAsRead (effect_of_arguments (command_of run.words)) Names v o → HoldsNow run.now (RootRecoversTo (λ names. HasSameState names o.files) Names)
  answered answers o is settles =
      now_last run.now (AnswersOutcomeAndLeavesItsFiles (ignored_after ignored events) v run) (RootRecoversTo (λ names. HasSameState names o.files) Names)
      (λ w ends leaves. recovers_to Names w (left_at w (w, last_moment run v w is_run ends, torn_self w)) (λ names. HasSameState names o.files) (state_rests o.files) (ends_settled o is settles w leaves))
      (here.answered answers)

  to_one : ReachesOneCrashState first events v ⊎ HasNoUnfinishedRunSinceCrash events → ReachesOneCrashState first events v
  to_one (inl to) = to
  to_one (inr none) = unbroken first v events seen none

  pub promised : IsAsPromised Names v run × (IsDurableAndLeavesFiles ignored (files_of first) first → ReachesOneCrashState first events v ⊎ HasNoUnfinishedRunSinceCrash events → EachCrashLeavesStateOf Names (files_of v) v)
  promised = (
    record {
      moments = moments;
      one = one;
      answered = answered;
      left = kept;
      answer = is_run.stated;
      change = λ command o named changes is. ended run.words command (files_of v) o named changes is;
    },
    λ rest to. more_settled (ignored_after ignored events) Names (files_of v) v (scratch_more (output run.words) (ignored_after ignored events))
        (one_state ignored first v events past.counts rest (to_one to)).settled,
  )

-- ---- of a call

pub of_call : ((v : TreeState) (run : Run) → IsRunFrom v run → IsAsPromisedAfterAnyEvents v run) → (run : Run) → IfObservable run.old (λ v. IsRunFrom v run × IsCrashSafeAfterAnyEvents v run × IsAtomicFromOneCrashState v run)
    → IfObservable run.old (λ v. IsRunFrom v run × IsAsPromisedAfterAnyEvents v run)
of_call holds run = by run.old
  where
    by : (h : History) → IfObservable h (λ v. IsRunFrom v run × IsCrashSafeAfterAnyEvents v run × IsAtomicFromOneCrashState v run) → IfObservable h (λ v. IsRunFrom v run × IsAsPromisedAfterAnyEvents v run)
    by [] is = is
    by (v ∷ rest) (is_run, all_safe, all_atomic) = (is_run, holds v run is_run)
