-- How the counts of a tree explain a verdict, call by call.
use Rattle.std.proofs.Common.{◌≡◌, inl, ℕ, true, List, [], ◌∷◌, Option, Ok, Err, refl}
use Rattle.std.specs.Prelude.{IfOk, IsErrOf, OnOk}
use Rattle.base_core.specs.Calls.{IfObservable}
use Rattle.base_core.specs.Faults.{Counts, CountsOnlyRise, CountsNewFaultWithCause, CountsNoNewFaultOrLackOfMemory}
use Rattle.base_core.specs.Read.{OnlyReads}
use Rattle.base_core.specs.Tree.{TreeState, files_of}
use Rattle.base_core.specs.declared.cause.Cause.{Cause}
use Rattle.base_core.specs.declared.tree.TreeFault.TheVariants.{Disk, Memory as NoMemory}
use Rattle.base_core.proofs.Counting.{cause_later, goes_on_same, goes_on_twice, no_fault_same, no_fault_twice}
use Rattle.command_core.specs.Command.{CommandLine}
use Rattle.journal_core.specs.Staged.{AreJournalPathsFreeAfterReplayIfAny}
use Rattle.journal_core.specs.declared.fault.RecoverFault.{RecoverFault}
use Rattle.journal_core.specs.declared.fault.RecoverFault.TheVariants as Faults
use Rattle.outcome.specs.Commands.{IsPossibleOutcomeWithoutDemo, IsPossibleOutcomeAfterRecovery}
use Rattle.outcome.specs.Effect.{Effect, does_recover}
use Rattle.outcome.specs.Outcome.{Outcome}
use Rattle.apk_front.specs.Moments.{AreRecoveryAndOutcomePathsFree}
use Rattle.apk_front.specs.RunContracts.{IsVerdictExplainedByCounts}
use Rattle.apk_front.specs.Verdicts.{ReportsOneOfOutcomes}
use Rattle.apk_front.specs.declared.answer.Verdict.{Verdict}
use Rattle.apk_front.proofs.Behind.{IsRefused}
use Rattle.apk_front.proofs.Carried.{look_memory}
use Rattle.apk_front.proofs.Runs.{History, Judged, on_ok}

-- ---- no call was made

-- a verdict without a call
pub counted_verdict : (verdict : Verdict) (a : Counts) → IsVerdictExplainedByCounts a a (Ok verdict)
counted_verdict verdict a = record { goes_on = goes_on_same a; disk = λ is. absurd (cc); kept = no_fault_same a; memory = λ is. no_fault_same a }

-- out of memory before the first call
pub counted_memory : (a : Counts) → IsVerdictExplainedByCounts a a (Err NoMemory)
counted_memory a = record { goes_on = goes_on_same a; disk = λ is. absurd (cc); kept = tt; memory = λ is. no_fault_same a }

-- whatever was judged without a call, but no I/O error
pub counted_idle : (judged : Judged) (a : Counts) → (judged ≡ Err Disk → ⊥) → IsVerdictExplainedByCounts a a judged
counted_idle judged a never = record { goes_on = goes_on_same a; disk = λ is. absurd (never is); kept = kept judged; memory = λ is. no_fault_same a }
  where
    kept : (judged : Judged) → OnOk judged (CountsNoNewFaultOrLackOfMemory a a)
    kept (Ok verdict) = no_fault_same a
    kept (Err fault) = tt

-- no call is a misuse if none was made
pub proper_idle : (Room : TreeState → Type 0) (old : History) (n : ℕ) → IfObservable old (λ v. Room v → n ≡ n)
proper_idle Room [] n = tt
proper_idle Room (v ∷ rest) n = λ room. refl

-- ---- calls that only read, and calls before the run

pub counted_reads : (judged : Judged) (old new : History) (a b : Counts) → OnlyReads Disk old new a b judged → IsVerdictExplainedByCounts a b judged
counted_reads judged old new a b reads = record { goes_on = reads.goes_on; disk = reads.disk; kept = reads.kept; memory = look_memory judged old new a b reads }

pub counted_after : (judged : Judged) (a b c : Counts) → CountsOnlyRise a b → CountsNoNewFaultOrLackOfMemory a b → IsVerdictExplainedByCounts b c judged → IsVerdictExplainedByCounts a c judged
counted_after judged a b c on none counted = record {
  goes_on = goes_on_twice a b c on counted.goes_on;
  disk = λ is. cause_later a b c on (counted.disk is);
  kept = on_ok judged (λ k. no_fault_twice a b c none k) counted.kept;
  memory = λ is. no_fault_twice a b c none (counted.memory is);
}

-- ---- a recovery that did not end

pub counted_unrecovered : (fault : RecoverFault) (judged : Judged) (a b : Counts) → CountsOnlyRise a b
    → (fault ≡ Faults.Disk → CountsNewFaultWithCause a b) → (fault ≡ Faults.Memory → CountsNoNewFaultOrLackOfMemory a b)
    → ((cause : Cause) → fault ≡ Faults.IntentBad cause → CountsNoNewFaultOrLackOfMemory a b)
    → IfOk judged (IsRefused fault) → (IsErrOf judged Disk → fault ≡ Faults.Disk) → (IsErrOf judged NoMemory → fault ≡ Faults.Memory)
    → IsVerdictExplainedByCounts a b judged
counted_unrecovered fault judged a b on disk memory bad refused by_disk by_memory = record {
  goes_on = on;
  disk = λ is. disk (by_disk is);
  kept = kept judged refused;
  memory = λ is. memory (by_memory is);
}
  where
    kept : (judged : Judged) → IfOk judged (IsRefused fault) → OnOk judged (CountsNoNewFaultOrLackOfMemory a b)
    kept (Ok verdict) (cause, is, same) = bad cause is
    kept (Err e) refused = tt

pub unrecovered_proper : (effect : Effect) (output : Option (List ℕ)) (IsOne : TreeState → Outcome → Type 0) (old : History) (P : Type 0) → does_recover effect ≡ true
    → IfObservable old (λ v. AreJournalPathsFreeAfterReplayIfAny (files_of v) → P) → IfObservable old (λ v. AreRecoveryAndOutcomePathsFree effect output (IsOne v) (files_of v) → P)
unrecovered_proper effect output IsOne [] P recovering proper = tt
unrecovered_proper effect output IsOne (v ∷ rest) P recovering proper = λ free. proper (free.0 recovering)

-- ---- the run after it

pub after_reads : (command : CommandLine) (judged : Judged) → IfOk judged (λ verdict. ReportsOneOfOutcomes (IsPossibleOutcomeAfterRecovery command) verdict)
    → IfOk judged (λ verdict. ReportsOneOfOutcomes (IsPossibleOutcomeWithoutDemo command) verdict)
after_reads command (Ok verdict) (outcome, one, reports) = (outcome, inl one, reports)
after_reads command (Err e) found = tt
