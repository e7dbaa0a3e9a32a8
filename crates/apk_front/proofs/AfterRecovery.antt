-- A run behind a recovery.
use Rattle.std.proofs.Common.{◌≡◌, inl, inr, ℕ, Bool, true, false, List, [], ◌∷◌, ◌++◌, append_assoc, Option, None, IsSome, Err, sym, ap, subst, ◌∙◌, arith}
use Rattle.std.specs.Prelude.{is_some, All, IsErrOf, OnOk}
use Rattle.std.proofs.lemmas.Bool.{false≢true}
use Rattle.std.proofs.lemmas.List.{append_cancel_right}
use Rattle.std.proofs.lemmas.List.Elements.{All-append, All-cons, All-head, All-nil, All-tail, All-weaker}
use Rattle.base_core.specs.Calls.{HoldsNow}
use Rattle.base_core.specs.Crash.{Since}
use Rattle.base_core.specs.Undone.{IsDurable}
use Rattle.base_core.specs.Files.{Files}
use Rattle.base_core.specs.Restart.{EachMoment}
use Rattle.base_core.specs.Tree.{TreeState, files_of}
use Rattle.base_core.specs.declared.cause.Cause.{Cause}
use Rattle.base_core.specs.declared.tree.TreeFault.{TreeFault}
use Rattle.base_core.specs.declared.tree.TreeFault.TheVariants.{Memory as NoMemory}
use Rattle.journal_core.specs.Kept.{ReadsOldOrNewBytesOutsideJournal, JournalOnlyShrinks, NamesOutsideJournalAreDurable}
use Rattle.journal_core.specs.Quiet.{EachCrashLeavesOld, StateIsUnchanged}
use Rattle.journal_core.specs.Recovery.{EachCrashLeavesOldOrNew, EachCrashLeavesStateOf, StateDependsOn, intent_name, intent_of, state_of}
use Rattle.journal_core.specs.Replacing.{IsMomentOfReplacing}
use Rattle.journal_core.specs.Staged.{HasNoStagedNames, IsOldUntilCommit, unstaged_files}
use Rattle.journal_core.proofs.Compose.{quiet_is_old, quiet_then, settled_quiet, still_itself, still_since}
use Rattle.journal_core.proofs.Lasting.{some_none}
use Rattle.journal_core.proofs.OnTheWay.{way_before}
use Rattle.journal_core.proofs.Published.{still_on_the_way}
use Rattle.outcome.specs.Effect.{Effect, does_recover}
use Rattle.outcome.specs.Outcome.{Outcome}
use Rattle.outcome.specs.Work.{recovery_fault, files_recovered_if_needed}
use Rattle.apk_front.specs.Moments.{MomentsOfMakingOrChangeLeadToFiles, AreStatesAsRecoveredOrOfCommittingRun, AreStatesOldOrLeadToOutcome, RecoversAndFindsValidIntent, HasNothingToRecover, IsDurableAndLeavesFiles, IsStateDuringRecoveryOrNext, IsStateDuringRunToNewFilesFromOld, IsStateDuringRecovery, CommitsRecoversIntentOrCrashesLeaveAsRead, OutcomeCommitsOrCrashesLeaveFilesAsRead, NamesAreDurableExceptOutputIfNoIntent, ignored_except_output_and_scratch}
use Rattle.apk_front.specs.Runs.{AreFilesReadWithoutRecovery, IsRunAfterRecovery, IsRunWithRecovery, IsOutOfMemoryOrWithoutCommit}
use Rattle.apk_front.proofs.Runs.{History, Judged, Leaves, err_ok, on_ok, settled_before, since_weaker}

-- ---- laws

abbrev pub Ignored : Type 0
Ignored = List ℕ → Bool

pub record AreLaws : Type 0 where
  pub none : (ignored : Ignored) (v : TreeState) → IsDurable (StateDependsOn ignored) v → StateIsUnchanged ignored v v
  pub calls : (ignored : Ignored) (v w : TreeState) (old between new : History) → Since (StateIsUnchanged ignored v) old between → StateIsUnchanged ignored v w → Since (StateIsUnchanged ignored w) between new → Since (StateIsUnchanged ignored v) old new
  pub lasts : (ignored : Ignored) (files : Files) (a b : TreeState) → EachCrashLeavesStateOf ignored files a → EachCrashLeavesOld ignored a b → EachCrashLeavesStateOf ignored files b
  pub quiet : (ignored : Ignored) (a b : TreeState) (new : Files) → EachCrashLeavesOld ignored a b → EachCrashLeavesOldOrNew ignored a new b
  pub behind : (ignored : Ignored) (a b c : TreeState) (new : Files) → EachCrashLeavesOld ignored a b → EachCrashLeavesOldOrNew ignored b new c → EachCrashLeavesOldOrNew ignored a new c
  pub is_unchanged : (ignored : Ignored) (files : Files) (start v : TreeState) (earlier : History) → StateIsUnchanged ignored start v → IsOldUntilCommit ignored files start earlier v
  pub before : (ignored : Ignored) (files : Files) (start v w : TreeState) (earlier first : History) → StateIsUnchanged ignored start v → IsOldUntilCommit ignored files v earlier w → IsOldUntilCommit ignored files start (earlier ++ first) w

-- moments of consecutive calls compose in these ways
pub moments_compose : AreLaws
moments_compose = record {
  none = still_itself;
  calls = still_since;
  lasts = settled_quiet;
  quiet = quiet_is_old;
  behind = quiet_then;
  is_unchanged = λ ignored files start v earlier is_unchanged. still_on_the_way ignored files start v is_unchanged earlier;
  before = way_before;
}

-- at each moment of a call nothing happens to the state
abbrev pub IsCalm : TreeState → History → History → Type 0
IsCalm v old now = (ignored : Ignored) → IsDurable (StateDependsOn ignored) v → Since (StateIsUnchanged ignored v) old now

-- ---- the newest moment

abbrev pub first_or : TreeState → History → TreeState
first_or v [] = v
first_or v (w ∷ h) = w

newest_of : AreLaws → (ignored : Ignored) (v u : TreeState) (rest more added : History) → IsDurable (StateDependsOn ignored) v → u ∷ more ≡ added ++ v ∷ rest → All (StateIsUnchanged ignored v) added → StateIsUnchanged ignored v u
newest_of laws ignored v u rest more [] is_durable is each = subst (StateIsUnchanged ignored v) (sym (ap (first_or v) is)) (laws.none ignored v is_durable)
newest_of laws ignored v u rest more (m ∷ added) is_durable is each = subst (StateIsUnchanged ignored v) (sym (ap (first_or v) is)) (All-head (StateIsUnchanged ignored v) m added each)

newest : AreLaws → (ignored : Ignored) (v u : TreeState) (rest more : History) → IsDurable (StateDependsOn ignored) v → Since (StateIsUnchanged ignored v) (v ∷ rest) (u ∷ more) → StateIsUnchanged ignored v u
newest laws ignored v u rest more is_durable since = newest_of laws ignored v u rest more since.added is_durable since.is since.each

-- whatever the history is
pub newest_durable : AreLaws → (ignored : Ignored) (v : TreeState) (rest now : History) → IsDurable (StateDependsOn ignored) v → Since (StateIsUnchanged ignored v) (v ∷ rest) now → HoldsNow now (IsDurable (StateDependsOn ignored))
newest_durable laws ignored v rest now is_durable since = by_added since.added since.is since.each
  where
    by_added : (added : History) → now ≡ added ++ v ∷ rest → All (StateIsUnchanged ignored v) added → HoldsNow now (IsDurable (StateDependsOn ignored))
    by_added [] is each = subst (λ (h : History). HoldsNow h (IsDurable (StateDependsOn ignored))) (sym is) is_durable
    by_added (m ∷ added) is each = subst (λ (h : History). HoldsNow h (IsDurable (StateDependsOn ignored))) (sym is) (All-head (StateIsUnchanged ignored v) m added each).is_durable

-- ---- moments in a row

pub since_both : (P Q R : TreeState → Type 0) (old mid now : History) → ((w : TreeState) → P w → R w) → ((w : TreeState) → Q w → R w) → Since P old mid → Since Q mid now → Since R old now
since_both P Q R old mid now p q first then = record {
  added = then.added ++ first.added;
  is = then.is ∙ ap (λ h. then.added ++ h) first.is ∙ sym (append_assoc then.added first.added old);
  each = All-append R then.added first.added (All-weaker Q R q then.added then.each) (All-weaker P R p first.added first.each);
}

still_replaces : AreLaws → (ignored : Ignored) (files : Files) (v w : TreeState) → StateIsUnchanged ignored v w → IsMomentOfReplacing ignored files v w
still_replaces laws ignored files v w is_unchanged = record { is_durable = is_unchanged.is_durable; old_or_new = laws.quiet ignored v w files is_unchanged.quiet; made = is_unchanged.made }

replaces_from : AreLaws → (ignored : Ignored) (files : Files) (v u w : TreeState) → StateIsUnchanged ignored v u → IsMomentOfReplacing ignored files u w → IsMomentOfReplacing ignored files v w
replaces_from laws ignored files v u w is_unchanged there = record { is_durable = there.is_durable; old_or_new = laws.behind ignored v u w files is_unchanged.quiet there.old_or_new; made = omega (arith, is_unchanged.made, there.made) }

each_still : AreLaws → (ignored : Ignored) (files : Files) (v : TreeState) (first : History) → All (StateIsUnchanged ignored v) first → EachMoment (IsOldUntilCommit ignored files v) first
each_still laws ignored files v [] each = tt
each_still laws ignored files v (m ∷ first) each = (laws.is_unchanged ignored files v m first (All-head (StateIsUnchanged ignored v) m first each), each_still laws ignored files v first (All-tail (StateIsUnchanged ignored v) m first each))

each_behind : AreLaws → (ignored : Ignored) (files : Files) (v u : TreeState) (added first : History) → StateIsUnchanged ignored v u → EachMoment (IsOldUntilCommit ignored files v) first → EachMoment (IsOldUntilCommit ignored files u) added → EachMoment (IsOldUntilCommit ignored files v) (added ++ first)
each_behind laws ignored files v u [] first is_unchanged earlier each = earlier
each_behind laws ignored files v u (m ∷ added) first is_unchanged earlier (here, others) = (laws.before ignored files v u m added first is_unchanged here, each_behind laws ignored files v u added first is_unchanged earlier others)

way_after : AreLaws → (makes : Bool) (ignored : Ignored) (files : Files) (v u : TreeState) (old mid now : History) → StateIsUnchanged ignored v u → Since (StateIsUnchanged ignored v) old mid → MomentsOfMakingOrChangeLeadToFiles makes ignored files u mid now → MomentsOfMakingOrChangeLeadToFiles makes ignored files v old now
way_after laws true ignored files v u old mid now is_unchanged first way =
    since_both (StateIsUnchanged ignored v) (IsMomentOfReplacing ignored files u) (IsMomentOfReplacing ignored files v) old mid now (still_replaces laws ignored files v) (λ w there. replaces_from laws ignored files v u w is_unchanged there) first way
way_after laws false ignored files v u old mid now is_unchanged first way = record {
  added = way.added ++ first.added;
  is = way.is ∙ ap (λ h. way.added ++ h) first.is ∙ sym (append_assoc way.added first.added old);
  each = each_behind laws ignored files v u way.added first.added is_unchanged (each_still laws ignored files v first.added first.each) way.each;
}

safe_after : AreLaws → (A B : Outcome → Type 0) (makes : Bool) (ignored : Ignored) (v u : TreeState) (old mid now : History) → ((o : Outcome) → A o → B o) → StateIsUnchanged ignored v u → Since (StateIsUnchanged ignored v) old mid
    → AreStatesOldOrLeadToOutcome A makes ignored u mid now → AreStatesOldOrLeadToOutcome B makes ignored v old now
safe_after laws A B makes ignored v u old mid now into is_unchanged first (inl then) = inl (laws.calls ignored v u old mid now first is_unchanged then)
safe_after laws A B makes ignored v u old mid now into is_unchanged first (inr (o, one, commits, way)) = inr (o, into o one, commits, way_after laws makes ignored o.files v u old mid now is_unchanged first way)

-- ---- what lasts

settled_same : (ignored : Ignored) (v u : TreeState) → EachCrashLeavesStateOf ignored (files_of v) u → state_of ignored (files_of u) ≡ state_of ignored (files_of v) → EachCrashLeavesStateOf ignored (files_of u) u
settled_same ignored v u settled reads = λ image is. settled image is ∙ sym reads

settles_after : AreLaws → (effect : Effect) (ignored : Ignored) (v u : TreeState) (o : Outcome) → StateIsUnchanged ignored v u → (IsSome (intent_of (files_of v)) → EachCrashLeavesStateOf ignored (files_of v) u) → CommitsRecoversIntentOrCrashesLeaveAsRead effect ignored v o → OutcomeCommitsOrCrashesLeaveFilesAsRead ignored u o
settles_after laws effect ignored v u o is_unchanged found (inl (inl commits)) = inl commits
settles_after laws effect ignored v u o is_unchanged found (inl (inr before)) = inr (settled_same ignored v u (laws.lasts ignored (files_of v) v u before is_unchanged.quiet) is_unchanged.reads)
settles_after laws effect ignored v u o is_unchanged found (inr (recovers, some)) = inr (settled_same ignored v u (found some) is_unchanged.reads)

-- ---- a run that recovers nothing

abbrev pub StaysWithout : History → History → Judged → Type 0
StaysWithout old now judged = IsErrOf judged NoMemory → now ≡ old

unwritten : (A B : Outcome → Type 0) (effect : Effect) (output : Option (List ℕ)) (judged : Judged) (u : TreeState) (mid now : History) → ((o : Outcome) → B o → A o) → IsRunAfterRecovery A effect output judged u mid now → StaysWithout mid now judged → IsOutOfMemoryOrWithoutCommit B judged → now ≡ mid
unwritten A B effect output judged u mid now from run memory (inl none) = memory none
unwritten A B effect output judged u mid now from run memory (inr (o, one, commits)) = run.idle o (from o one) commits

pub none_since : (P : TreeState → Type 0) (old now : History) → now ≡ old → Since P old now
none_since P old now same = record { added = []; is = same; each = All-nil P }

-- ---- a run that recovers

abbrev pub RecoversAs : TreeState → TreeState → Type 0
RecoversAs v w = unstaged_files (files_of w) ≡ unstaged_files (files_of v)

-- each name that does not wait has its old bytes or its recovered ones
abbrev pub BytesAs : TreeState → TreeState → Type 0
BytesAs v w = ReadsOldOrNewBytesOutsideJournal (files_of v) (unstaged_files (files_of v)) w

-- as soon as no intent is read, a crash undoes no change of a name that does not wait
abbrev pub NamesOutsideJournalAreDurableIfNoIntent : TreeState → Type 0
NamesOutsideJournalAreDurableIfNoIntent w = w.names intent_name ≡ None → NamesOutsideJournalAreDurable w

-- what a recovery says, whatever it answers
pub record IsRecovery (v : TreeState) (old mid : History) : Type 0 where
  pub calm : IsCalm v old mid
  pub reads : Since (RecoversAs v) old mid
  pub bytes : Since (BytesAs v) old mid
  pub waiting : Since (JournalOnlyShrinks v) old mid
  pub last : IsSome (v.names intent_name) → Since NamesOutsideJournalAreDurableIfNoIntent old mid
  pub idle : v.names intent_name ≡ None → HasNoStagedNames v.names → mid ≡ old

-- and where it ended well
pub record IsRecovered (v : TreeState) (old mid : History) : Type 0 where
  pub recovery : IsRecovery v old mid
  pub files : HoldsNow mid (λ w. (files_of w ≡ unstaged_files (files_of v)) × (w.names intent_name ≡ None))
  pub settled : (ignored : Ignored) → IsDurable (StateDependsOn ignored) v → IsSome (intent_of (files_of v)) → HoldsNow mid (EachCrashLeavesStateOf ignored (files_of v))

nothing_done : (effect : Effect) (v : TreeState) (P : Type 0) → does_recover effect ≡ true → (v.names intent_name ≡ None → HasNoStagedNames v.names → P) → HasNothingToRecover effect v → P
nothing_done effect v P recovers idle (inl not_so) = absurd (false≢true (sym not_so ∙ recovers))
nothing_done effect v P recovers idle (inr (absent, empty)) = idle absent empty

-- ---- what is read

all_both : (P Q : TreeState → Type 0) (added : History) → All P added → All Q added → All (λ w. P w × Q w) added
all_both P Q [] p q = All-nil (λ w. P w × Q w)
all_both P Q (w ∷ added) p q = All-cons (λ w. P w × Q w) w added (All-head P w added p, All-head Q w added q) (all_both P Q added (All-tail P w added p) (All-tail Q w added q))

since_and : (P Q : TreeState → Type 0) (old now : History) → Since P old now → Since Q old now → Since (λ w. P w × Q w) old now
since_and P Q old now p q =
    let same : q.added ≡ p.added = append_cancel_right q.added p.added old (sym q.is ∙ p.is) in
    record { added = p.added; is = p.is; each = all_both P Q p.added p.each (subst (λ (h : History). All Q h) same q.each) }

recovering : (v : TreeState) (old mid : History) → IsRecovery v old mid → Since (IsStateDuringRecovery v) old mid
recovering v old mid recovery =
    since_weaker (λ w. RecoversAs v w × (BytesAs v w × JournalOnlyShrinks v w)) (IsStateDuringRecovery v) old mid (λ w all. record { reads = all.0; bytes = all.1.0; waiting = all.1.1 })
    (since_and (RecoversAs v) (λ w. BytesAs v w × JournalOnlyShrinks v w) old mid recovery.reads (since_and (BytesAs v) (JournalOnlyShrinks v) old mid recovery.bytes recovery.waiting))

reads_after : (A B : Outcome → Type 0) (effect : Effect) (output : Option (List ℕ)) (v u : TreeState) (old mid now : History) → does_recover effect ≡ true → files_of u ≡ files_recovered_if_needed effect (files_of v) → ((o : Outcome) → A o → B o)
    → Since (IsStateDuringRecovery v) old mid → AreFilesReadWithoutRecovery A effect output u mid now → AreStatesAsRecoveredOrOfCommittingRun B effect output v old now
reads_after A B effect output v u old mid now recovers work into first (inl same) =
    inl (since_both (IsStateDuringRecovery v) (λ w. files_of w ≡ files_of u) (IsStateDuringRecoveryOrNext effect (λ w. files_of w ≡ files_recovered_if_needed effect (files_of v)) v) old mid now (λ w r. inl (recovers, r)) (λ w is. inr (is ∙ work)) first same)
reads_after A B effect output v u old mid now recovers work into first (inr (o, one, commits, at_work)) =
    inr (
      o,
      into o one,
      commits,
      since_both (IsStateDuringRecovery v) (IsStateDuringRunToNewFilesFromOld effect output o.files (files_of u)) (IsStateDuringRecoveryOrNext effect (IsStateDuringRunToNewFilesFromOld effect output o.files (files_recovered_if_needed effect (files_of v))) v) old mid now
          (λ w r. inl (recovers, r))
          (λ w is. inr (subst (λ (f : Files). IsStateDuringRunToNewFilesFromOld effect output o.files f w) work is)) first at_work,
    )

-- ---- the names

unread_last : (output : Option (List ℕ)) (w : TreeState) → NamesOutsideJournalAreDurableIfNoIntent w → NamesAreDurableExceptOutputIfNoIntent output w
unread_last output w last none map among q off no_intent unstaged = last none map among q no_intent unstaged

newest_last : (v u : TreeState) (rest more added : History) → IsSome (v.names intent_name) → u ∷ more ≡ added ++ v ∷ rest → All NamesOutsideJournalAreDurableIfNoIntent added → u.names intent_name ≡ None → NamesOutsideJournalAreDurable u
newest_last v u rest more [] some is each none = absurd (some_none (v.names intent_name) (sym (ap (λ (h : History). (first_or v h).names intent_name) is) ∙ none) some)
newest_last v u rest more (m ∷ added) some is each none =
    let same : u ≡ m = ap (first_or v) is in
    subst NamesOutsideJournalAreDurable (sym same) (All-head NamesOutsideJournalAreDurableIfNoIntent m added each (subst (λ (w : TreeState). w.names intent_name ≡ None) same none))

last_after : (output : Option (List ℕ)) (v u : TreeState) (rest more now : History) → IsRecovery v (v ∷ rest) (u ∷ more) → u.names intent_name ≡ None → (NamesOutsideJournalAreDurable u → Since (NamesAreDurableExceptOutputIfNoIntent output) (u ∷ more) now)
    → IsSome (v.names intent_name) → Since (NamesAreDurableExceptOutputIfNoIntent output) (v ∷ rest) now
last_after output v u rest more now recovery none then some =
    let first = recovery.last some in
    let here = newest_last v u rest more first.added some first.is first.each none in
    since_both NamesOutsideJournalAreDurableIfNoIntent (NamesAreDurableExceptOutputIfNoIntent output) (NamesAreDurableExceptOutputIfNoIntent output) (v ∷ rest) (u ∷ more) now (unread_last output) (λ w last. last) first (then here)

-- ---- the recovery ended well

no_fault_to_recover : (effect : Effect) (files : Files) (P : Type 0) → recovery_fault effect files ≡ None → IsSome (recovery_fault effect files) → P
no_fault_to_recover effect files P none some = absurd (false≢true (sym (ap (λ (o : Option Cause). is_some o) none) ∙ some))

pub whole_after : AreLaws → (A B : Outcome → Type 0) (effect : Effect) (output : Option (List ℕ)) (judged : Judged) (v u : TreeState) (rest more now : History)
    → does_recover effect ≡ true → recovery_fault effect (files_of v) ≡ None → files_of u ≡ files_recovered_if_needed effect (files_of v) → u.names intent_name ≡ None → ((o : Outcome) → A o → B o) → ((o : Outcome) → B o → A o)
    → IsRecovered v (v ∷ rest) (u ∷ more) → IsRunAfterRecovery A effect output judged u (u ∷ more) now → StaysWithout (u ∷ more) now judged → IsRunWithRecovery B effect output judged v (v ∷ rest) now
whole_after laws A B effect output judged v u rest more now recovers good work none into from recovered run memory =
    let calm = recovered.recovery.calm in
    let is_unchanged : (ignored : Ignored) → IsDurable (StateDependsOn ignored) v → StateIsUnchanged ignored v u = λ ignored is_durable. newest laws ignored v u rest more is_durable (calm ignored is_durable) in
    let same : HasNothingToRecover effect v → u ∷ more ≡ v ∷ rest = λ nothing. nothing_done effect v (u ∷ more ≡ v ∷ rest) recovers recovered.recovery.idle nothing in
    record {
      moments = λ ignored is_durable hides.
          safe_after laws A B (is_some output) ignored v u (v ∷ rest) (u ∷ more) now into (is_unchanged ignored is_durable) (calm ignored is_durable) (run.moments ignored (is_unchanged ignored is_durable).is_durable hides);
      is_durable = λ ignored is_durable hides. run.is_durable ignored (is_unchanged ignored is_durable).is_durable hides;
      settled = λ ignored o is_durable hides one lasts.
          run.settled ignored o (is_unchanged ignored is_durable).is_durable hides (from o one)
          (settles_after laws effect ignored v u o (is_unchanged ignored is_durable) (recovered.settled ignored is_durable) lasts);
      durable_state = λ ignored o is_durable hides one commits. run.durable_state ignored o (is_unchanged ignored is_durable).is_durable hides (from o one) commits;
      left = λ without ignored is_durable.
          subst (λ (h : History). Since (StateIsUnchanged ignored v) (v ∷ rest) h) (sym (unwritten A B effect output judged u (u ∷ more) now from run memory without)) (calm ignored is_durable);
      idle = λ without nothing. unwritten A B effect output judged u (u ∷ more) now from run memory without ∙ same nothing;
      bad = λ some. no_fault_to_recover effect (files_of v) (now ≡ v ∷ rest) good some;
      reads = reads_after A B effect output v u (v ∷ rest) (u ∷ more) now recovers work into (recovering v (v ∷ rest) (u ∷ more) recovered.recovery) run.reads;
      last = last_after output v u rest more now recovered.recovery none run.last;
      leaves = λ o one. run.leaves o (from o one);
    }

-- the recovery failed
pub whole_failed : AreLaws → (IsOne : Outcome → Type 0) (effect : Effect) (output : Option (List ℕ)) (judged : Judged) (e : TreeFault) (v : TreeState) (rest now : History) → does_recover effect ≡ true → judged ≡ Err e
    → IsRecovery v (v ∷ rest) now → (IsSome (recovery_fault effect (files_of v)) → now ≡ v ∷ rest) → IsRunWithRecovery IsOne effect output judged v (v ∷ rest) now
whole_failed laws IsOne effect output judged e v rest now recovers failed recovery bad = record {
  moments = λ ignored is_durable hides. inl (recovery.calm ignored is_durable);
  is_durable = λ ignored is_durable hides. newest_durable laws ignored v rest now is_durable (recovery.calm ignored is_durable);
  settled = λ ignored o is_durable hides one lasts. err_ok (HoldsNow now (EachCrashLeavesStateOf ignored o.files)) judged e failed;
  durable_state = λ ignored o is_durable hides one commits. err_ok (HoldsNow now (IsDurableAndLeavesFiles (ignored_except_output_and_scratch output ignored) o.files)) judged e failed;
  left = λ without ignored is_durable. recovery.calm ignored is_durable;
  idle = λ without nothing. nothing_done effect v (now ≡ v ∷ rest) recovers recovery.idle nothing;
  bad = bad;
  reads = inl (since_weaker (IsStateDuringRecovery v) (IsStateDuringRecoveryOrNext effect (λ w. files_of w ≡ files_recovered_if_needed effect (files_of v)) v) (v ∷ rest) now (λ w r. inl (recovers, r)) (recovering v (v ∷ rest) now recovery));
  last = λ some. since_weaker NamesOutsideJournalAreDurableIfNoIntent (NamesAreDurableExceptOutputIfNoIntent output) (v ∷ rest) now (unread_last output) (recovery.last some);
  leaves = λ o one. err_ok (HoldsNow now (λ w. files_of w ≡ o.files)) judged e failed;
}

-- an outcome leaves the files, and no intent is found to be done
abbrev pub LeavesAll : Effect → TreeState → Outcome → Type 0
LeavesAll effect v o = Leaves (files_of v) o × (RecoversAndFindsValidIntent effect v → ⊥)

settled_left : (effect : Effect) (ignored : Ignored) (v : TreeState) (o : Outcome) → LeavesAll effect v o → CommitsRecoversIntentOrCrashesLeaveAsRead effect ignored v o → EachCrashLeavesStateOf ignored (files_of v) v
settled_left effect ignored v o (leaves, never) (inl settles) = settled_before ignored v o leaves.1 settles
settled_left effect ignored v o (leaves, never) (inr can) = absurd (never can)

-- nothing was written
pub whole_idle : (IsOne : Outcome → Type 0) (effect : Effect) (output : Option (List ℕ)) (judged : Judged) (v : TreeState) (rest now : History) → now ≡ v ∷ rest → ((o : Outcome) → IsOne o → OnOk judged (LeavesAll effect v o))
    → IsRunWithRecovery IsOne effect output judged v (v ∷ rest) now
whole_idle IsOne effect output judged v rest now same all = record {
  moments = λ ignored is_durable hides. inl (none_since (StateIsUnchanged ignored v) (v ∷ rest) now same);
  is_durable = λ ignored is_durable hides. subst (λ (h : History). HoldsNow h (IsDurable (StateDependsOn ignored))) (sym same) is_durable;
  settled = λ ignored o is_durable hides one lasts.
      on_ok judged
      (λ left. subst (λ (h : History). HoldsNow h (EachCrashLeavesStateOf ignored o.files)) (sym same) (subst (λ (f : Files). EachCrashLeavesStateOf ignored f v) (sym left.0.0) (settled_left effect ignored v o left lasts)))
      (all o one);
  durable_state = λ ignored o is_durable hides one commits. on_ok judged (λ left. absurd (false≢true (sym left.0.1 ∙ commits))) (all o one);
  left = λ without ignored is_durable. none_since (StateIsUnchanged ignored v) (v ∷ rest) now same;
  idle = λ without nothing. same;
  bad = λ some. same;
  reads = inl (none_since (IsStateDuringRecoveryOrNext effect (λ w. files_of w ≡ files_recovered_if_needed effect (files_of v)) v) (v ∷ rest) now same);
  last = λ some. none_since (NamesAreDurableExceptOutputIfNoIntent output) (v ∷ rest) now same;
  leaves = λ o one. on_ok judged (λ left. subst (λ (h : History). HoldsNow h (λ w. files_of w ≡ o.files)) (sym same) (sym left.0.0)) (all o one);
}
