-- A command behind a recovery: its outcomes.
use Rattle.std.proofs.Common.{◌≡◌, inl, inr, ℕ, Bool, true, List, [], ◌∷◌, Option, Some, None, IsSome, Ok, Err, refl, sym, ap, subst, ◌∙◌}
use Rattle.std.specs.Prelude.{if◌then◌else◌, IfOk, OnOk}
use Rattle.std.proofs.lemmas.Bool.{false≢true}
use Rattle.adb_dump.specs.adb_schema.Soundness.{container_fault_except_contents, payload_in, root_value_of_payload}
use Rattle.adb_view.specs.declared.tables.Which.TheVariants.{Intent as IntentTable}
use Rattle.base_core.specs.Calls.{HoldsNow, IfObservable}
use Rattle.base_core.specs.Crash.{Since}
use Rattle.base_core.specs.Undone.{IsDurable}
use Rattle.base_core.specs.Files.{Files, no_names}
use Rattle.base_core.specs.Tree.{TreeState, files_of}
use Rattle.base_core.specs.declared.cause.Cause.{Cause}
use Rattle.command_core.specs.Command.{CommandLine}
use Rattle.journal_core.specs.Kept.{JournalOnlyShrinks}
use Rattle.journal_core.specs.Recovery.{EachCrashLeavesStateOf, StateDependsOn, intent_in_file, intent_name, intent_of, intent_unless_fault, read_intent, recovered_files}
use Rattle.journal_core.specs.Staged.{AreJournalPathsFreeAfterReplayIfAny, HasNoStagedNames, IsIntentFault, unstaged_files}
use Rattle.journal_core.specs.declared.fault.RecoverFault.{RecoverFault}
use Rattle.journal_core.specs.declared.fault.RecoverFault.TheVariants.{IntentBad as BadIntent}
use Rattle.outcome.specs.Commands.{IsPossibleOutcomeWithoutDemo, IsPossibleOutcomeAfterRecovery, IsOutcomeWithoutDemo, IsOutcomeOverRecoveredFiles, IsOutcomeUnlessBadIntent}
use Rattle.outcome.specs.Effect.{Effect, Computes, OnlyReadsFiles, AsksRoot, Makes, Changes, does_recover, effect_of}
use Rattle.outcome.specs.Outcome.{Outcome, just_refusal}
use Rattle.outcome.specs.Work.{fault_of_intent, recovery_fault}
use Rattle.outcome.proofs.Recovering.{work_is}
use Rattle.report_core.specs.declared.refusal.Refusal.TheVariants.{IntentBad}
use Rattle.apk_front.specs.Moments.{ArePathsToWriteFree, AreRecoveryAndOutcomePathsFree}
use Rattle.apk_front.specs.Runs.{HasNothingStaged, IfNothingStaged, IsRunAfterRecovery, IsRunWithRecovery}
use Rattle.apk_front.specs.Verdicts.{ReportsOneOfOutcomes, as_outcome}
use Rattle.apk_front.specs.declared.answer.Verdict.{Verdict}
use Rattle.apk_front.proofs.Carried.{Ones, RoomFor, Wholes}
use Rattle.apk_front.proofs.AfterRecovery.{AreLaws, BytesAs, IsCalm, IsRecovery, NamesOutsideJournalAreDurableIfNoIntent, LeavesAll, RecoversAs, StaysWithout, whole_after, whole_failed, whole_idle}
use Rattle.apk_front.proofs.Runs.{History, Judged, Leaves, none_is_some}

-- ---- a command that recovers

no_bad : (files : Files) → ((cause : Cause) → IsIntentFault files cause → ⊥) → fault_of_intent (files intent_name) ≡ None
no_bad files good = by_found (files intent_name) refl
  where
    by_fault : (file : List ℕ) (fault : Option Cause) → files intent_name ≡ Some file → container_fault_except_contents IntentTable file ≡ fault → fault ≡ None
    by_fault file None at is = refl
    by_fault file (Some cause) at is = absurd (good cause (file, at, is))

    by_found : (found : Option (List ℕ)) → files intent_name ≡ found → fault_of_intent found ≡ None
    by_found None at = refl
    by_found (Some file) at = by_fault file (container_fault_except_contents IntentTable file) at refl

good_is : (effect : Effect) (files : Files) → does_recover effect ≡ true → ((cause : Cause) → IsIntentFault files cause → ⊥) → recovery_fault effect files ≡ None
good_is Computes files recovering good = cc
good_is OnlyReadsFiles files recovering good = cc
good_is AsksRoot files recovering good = no_bad files good
good_is Makes files recovering good = no_bad files good
good_is Changes files recovering good = no_bad files good

bad_is : (effect : Effect) (files : Files) (cause : Cause) → does_recover effect ≡ true → IsIntentFault files cause → recovery_fault effect files ≡ Some cause
bad_is Computes files cause recovering bad = cc
bad_is OnlyReadsFiles files cause recovering bad = cc
bad_is AsksRoot files cause recovering (file, at, is) = ap fault_of_intent at ∙ is
bad_is Makes files cause recovering (file, at, is) = ap fault_of_intent at ∙ is
bad_is Changes files cause recovering (file, at, is) = ap fault_of_intent at ∙ is

fault_found : (files : Files) → IsSome (fault_of_intent (files intent_name)) → (cause : Cause) × IsIntentFault files cause
fault_found files some = by_found (files intent_name) refl some
  where
    by_fault : (file : List ℕ) (fault : Option Cause) → files intent_name ≡ Some file → container_fault_except_contents IntentTable file ≡ fault → IsSome fault → (cause : Cause) × IsIntentFault files cause
    by_fault file None at is none = absurd (false≢true none)
    by_fault file (Some cause) at is there = (cause, (file, at, is))

    by_found : (found : Option (List ℕ)) → files intent_name ≡ found → IsSome (fault_of_intent found) → (cause : Cause) × IsIntentFault files cause
    by_found None at none = absurd (false≢true none)
    by_found (Some file) at there = by_fault file (container_fault_except_contents IntentTable file) at refl there

-- why a command cannot recover
bad_found : (effect : Effect) (files : Files) → IsSome (recovery_fault effect files) → (cause : Cause) × IsIntentFault files cause
bad_found Computes files some = absurd (false≢true some)
bad_found OnlyReadsFiles files some = absurd (false≢true some)
bad_found AsksRoot files some = fault_found files some
bad_found Makes files some = fault_found files some
bad_found Changes files some = fault_found files some

-- ---- the recovery ended well

abbrev pub IsGood : TreeState → Type 0
IsGood v = (cause : Cause) → IsIntentFault (files_of v) cause → ⊥

abbrev pub LeavesUnstaged : TreeState → TreeState → Type 0
LeavesUnstaged v w = (files_of w ≡ unstaged_files (files_of v)) × (w.names intent_name ≡ None)

into : (command : CommandLine) (v u : TreeState) (o : Outcome) → does_recover (effect_of command.applet) ≡ true → IsGood v → LeavesUnstaged v u → Ones command u o → Wholes command v o
into command v u o recovering good left one =
    subst (λ (fault : Option Cause). IsOutcomeUnlessBadIntent fault command (files_of v) o) (sym (good_is (effect_of command.applet) (files_of v) recovering good))
    (subst (λ (f : Files). IsOutcomeOverRecoveredFiles command f o) (left.0 ∙ sym (work_is (effect_of command.applet) (files_of v) recovering)) one)

from : (command : CommandLine) (v u : TreeState) (o : Outcome) → does_recover (effect_of command.applet) ≡ true → IsGood v → LeavesUnstaged v u → Wholes command v o → Ones command u o
from command v u o recovering good left one =
    subst (λ (f : Files). IsOutcomeOverRecoveredFiles command f o) (sym (left.0 ∙ sym (work_is (effect_of command.applet) (files_of v) recovering)))
    (subst (λ (fault : Option Cause). IsOutcomeUnlessBadIntent fault command (files_of v) o) (good_is (effect_of command.applet) (files_of v) recovering good) one)

-- nothing waits then
pub nothing_waits : (v u : TreeState) → LeavesUnstaged v u → HasNothingStaged u
nothing_waits v u left = (left.1, λ q staged. ap (λ (f : Files). f q) left.0 ∙ ap (λ b. if b then None else recovered_files (files_of v) q) staged)

pub after_found : (command : CommandLine) (old mid : History) (judged : Judged) → does_recover (effect_of command.applet) ≡ true → IfObservable old IsGood → IfObservable old (λ v. HoldsNow mid (LeavesUnstaged v))
    → IfOk judged (λ verdict. IfNothingStaged mid (λ u. ReportsOneOfOutcomes (Ones command u) verdict)) → IfOk judged (λ verdict. IfObservable old (λ v. ReportsOneOfOutcomes (Wholes command v) verdict))
after_found command old mid (Err e) recovering good left found = tt
after_found command [] mid (Ok verdict) recovering good left found = tt
after_found command (v ∷ rest) [] (Ok verdict) recovering good left found = absurd left
after_found command (v ∷ rest) (u ∷ more) (Ok verdict) recovering good left found =
    let (o, one, reports) = found (nothing_waits v u left) in
    (o, into command v u o recovering good left one, reports)

pub behind_read : (command : CommandLine) (judged : Judged) → IfOk judged (ReportsOneOfOutcomes (IsPossibleOutcomeAfterRecovery command)) → IfOk judged (ReportsOneOfOutcomes (IsPossibleOutcomeWithoutDemo command))
behind_read command (Err e) found = tt
behind_read command (Ok verdict) (o, one, reports) = (o, inl one, reports)

abbrev pub Settled : History → TreeState → Type 0
Settled mid v = (ignored : List ℕ → Bool) → IsDurable (StateDependsOn ignored) v → IsSome (intent_of (files_of v)) → HoldsNow mid (EachCrashLeavesStateOf ignored (files_of v))

abbrev pub Idle : History → History → TreeState → Type 0
Idle old mid v = v.names intent_name ≡ None → HasNoStagedNames v.names → mid ≡ old

pub behind_run : AreLaws → (command : CommandLine) (output : Option (List ℕ)) (judged : Judged) (old mid now : History) → does_recover (effect_of command.applet) ≡ true
    → IfObservable old (λ v. IsRecovery v old mid) → IfObservable old IsGood → IfObservable old (λ v. HoldsNow mid (LeavesUnstaged v)) → IfObservable old (Settled mid)
    → IfNothingStaged mid (λ u. IsRunAfterRecovery (Ones command u) (effect_of command.applet) output judged u mid now) → IfNothingStaged mid (λ u. StaysWithout mid now judged)
    → IfObservable old (λ v. IsRunWithRecovery (Wholes command v) (effect_of command.applet) output judged v old now)
behind_run laws command output judged [] mid now recovering recovery good left settled run memory = tt
behind_run laws command output judged (v ∷ rest) [] now recovering recovery good left settled run memory = absurd left
behind_run laws command output judged (v ∷ rest) (u ∷ more) now recovering recovery good left settled run memory =
    whole_after laws (Ones command u) (Wholes command v) (effect_of command.applet) output judged v u rest more now recovering
    (good_is (effect_of command.applet) (files_of v) recovering good) (left.0 ∙ sym (work_is (effect_of command.applet) (files_of v) recovering)) left.1
    (λ o one. into command v u o recovering good left one) (λ o one. from command v u o recovering good left one) (record { recovery = recovery; files = left; settled = settled })
    (run (nothing_waits v u left)) (memory (nothing_waits v u left))

pub after_proper : (command : CommandLine) (output : Option (List ℕ)) (old mid : History) (first second last : ℕ) → does_recover (effect_of command.applet) ≡ true → IfObservable old IsGood → IfObservable old (λ v. HoldsNow mid (LeavesUnstaged v))
    → IfObservable old (λ v. AreJournalPathsFreeAfterReplayIfAny (files_of v) → second ≡ first) → IfNothingStaged mid (λ u. RoomFor (Ones command u) (effect_of command.applet) output (files_of u) → last ≡ second)
    → IfObservable old (λ v. AreRecoveryAndOutcomePathsFree (effect_of command.applet) output (Wholes command v) (files_of v) → last ≡ first)
after_proper command output [] mid first second last recovering good left before after = tt
after_proper command output (v ∷ rest) [] first second last recovering good left before after = absurd left
after_proper command output (v ∷ rest) (u ∷ more) first second last recovering good left before after = λ room.
    after (nothing_waits v u left)
    (λ o one commits.
    subst (ArePathsToWriteFree (effect_of command.applet) output) (sym (left.0 ∙ sym (work_is (effect_of command.applet) (files_of v) recovering)))
    (room.1 o (into command v u o recovering good left one) commits))
    ∙ before (room.0 recovering)

-- ---- it did not

-- how a fault of the recovery is judged
abbrev pub IsRefused : RecoverFault → Verdict → Type 0
IsRefused fault verdict = (cause : Cause) × (fault ≡ BadIntent cause) × ((files : Files) → as_outcome files verdict ≡ just_refusal files (IntentBad cause))

abbrev pub SaysBad : RecoverFault → History → History → Type 0
SaysBad fault old mid = (cause : Cause) → fault ≡ BadIntent cause → (mid ≡ old) × IfObservable old (λ v. IsIntentFault (files_of v) cause)

bad_one : (command : CommandLine) (files : Files) (cause : Cause) → does_recover (effect_of command.applet) ≡ true → IsIntentFault files cause → IsOutcomeWithoutDemo (Ok command) files (just_refusal files (IntentBad cause))
bad_one command files cause recovering bad =
    subst (λ (fault : Option Cause). IsOutcomeUnlessBadIntent fault command files (just_refusal files (IntentBad cause))) (sym (bad_is (effect_of command.applet) files cause recovering bad)) refl

pub refused_found : (command : CommandLine) (fault : RecoverFault) (old mid : History) (judged : Judged) → does_recover (effect_of command.applet) ≡ true → SaysBad fault old mid → IfOk judged (IsRefused fault)
    → IfOk judged (λ verdict. IfObservable old (λ v. ReportsOneOfOutcomes (Wholes command v) verdict))
refused_found command fault old mid (Err e) recovering bad refused = tt
refused_found command fault [] mid (Ok verdict) recovering bad refused = tt
refused_found command fault (v ∷ rest) mid (Ok verdict) recovering bad (cause, is, same) =
    (just_refusal (files_of v) (IntentBad cause), bad_one command (files_of v) cause recovering (bad cause is).1, same (files_of v))

pub refused_read : (command : CommandLine) (fault : RecoverFault) (judged : Judged) → does_recover (effect_of command.applet) ≡ true → ((cause : Cause) → fault ≡ BadIntent cause → (file : List ℕ) × (container_fault_except_contents IntentTable file ≡ Some cause)) → IfOk judged (IsRefused fault)
    → IfOk judged (ReportsOneOfOutcomes (IsPossibleOutcomeWithoutDemo command))
refused_read command fault (Err e) recovering found refused = tt
refused_read command fault (Ok verdict) recovering found (cause, is, same) =
    let (file, bad) = found cause is in
    (just_refusal no_names (IntentBad cause), inr (recovering, (file, cause, bad, refl)), same no_names)

-- a bad intent is not read
bad_unread : (files : Files) (cause : Cause) → IsIntentFault files cause → intent_of files ≡ None
unfolding read_intent
bad_unread files cause (file, at, is) = ap intent_in_file at ∙ ap (λ (fault : Option Cause). intent_unless_fault fault (root_value_of_payload IntentTable (payload_in file))) is

bad_leaves : (command : CommandLine) (v : TreeState) (cause : Cause) (o : Outcome) → does_recover (effect_of command.applet) ≡ true → IsIntentFault (files_of v) cause → Wholes command v o → LeavesAll (effect_of command.applet) v o
bad_leaves command v cause o recovering bad one =
    let is : o ≡ just_refusal (files_of v) (IntentBad cause) = subst (λ (fault : Option Cause). IsOutcomeUnlessBadIntent fault command (files_of v) o) (bad_is (effect_of command.applet) (files_of v) cause recovering bad) one in
    (subst (Leaves (files_of v)) (sym is) (refl, refl), λ can. none_is_some (intent_of (files_of v)) (bad_unread (files_of v) cause bad) can.1)

pub refused_run : AreLaws → (command : CommandLine) (fault : RecoverFault) (output : Option (List ℕ)) (judged : Judged) (old mid : History) → does_recover (effect_of command.applet) ≡ true
    → IfObservable old (λ v. IsRecovery v old mid) → SaysBad fault old mid → IfObservable old (λ v. (cause : Cause) → IsIntentFault (files_of v) cause → mid ≡ old) → IfOk judged (IsRefused fault)
    → IfObservable old (λ v. IsRunWithRecovery (Wholes command v) (effect_of command.applet) output judged v old mid)
refused_run laws command fault output judged [] mid recovering recovery bad idle refused = tt
refused_run laws command fault output (Ok verdict) (v ∷ rest) mid recovering recovery bad idle (cause, is, same) =
    whole_idle (Wholes command v) (effect_of command.applet) output (Ok verdict) v rest mid (bad cause is).0 (λ o one. bad_leaves command v cause o recovering (bad cause is).1 one)
refused_run laws command fault output (Err e) (v ∷ rest) mid recovering recovery bad idle refused =
    whole_failed laws (Wholes command v) (effect_of command.applet) output (Err e) e v rest mid recovering refl recovery
    (λ some. let (cause, is) = bad_found (effect_of command.applet) (files_of v) some in idle cause is)

-- what a recovery says of each moment
pub is_recovery : (old mid : History) → IfObservable old (λ v. IsCalm v old mid) → IfObservable old (λ v. Since (RecoversAs v) old mid) → IfObservable old (λ v. Since (BytesAs v) old mid) → IfObservable old (λ v. Since (JournalOnlyShrinks v) old mid)
    → IfObservable old (λ v. IsSome (v.names intent_name) → Since NamesOutsideJournalAreDurableIfNoIntent old mid) → IfObservable old (Idle old mid) → IfObservable old (λ v. IsRecovery v old mid)
is_recovery [] mid calm reads bytes waiting last idle = tt
is_recovery (v ∷ rest) mid calm reads bytes waiting last idle = record { calm = calm; reads = reads; bytes = bytes; waiting = waiting; last = last; idle = idle }

pub refused_proper : (Room : TreeState → Type 0) (old : History) (P : Type 0) → ((v : TreeState) → Room v → AreJournalPathsFreeAfterReplayIfAny (files_of v)) → IfObservable old (λ v. AreJournalPathsFreeAfterReplayIfAny (files_of v) → P) → IfObservable old (λ v. Room v → P)
refused_proper Room [] P f proper = tt
refused_proper Room (v ∷ rest) P f proper = λ room. proper (f v room)

pub refused_kept : (fault : RecoverFault) (judged : Judged) (P : Type 0) → ((cause : Cause) → fault ≡ BadIntent cause → P) → IfOk judged (IsRefused fault) → OnOk judged P
refused_kept fault (Ok verdict) P kept (cause, is, same) = kept cause is
refused_kept fault (Err e) P kept refused = tt
