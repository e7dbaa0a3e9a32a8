-- The counts of a run behind calls that only read.
use Rattle.std.proofs.Common.{◌≡◌, List, Result, Ok, Err, refl, ap}
use Rattle.std.specs.Prelude.{IfErr, OnOk}
use Rattle.base_core.specs.Faults.{Counts, CountsOnlyRise, CountsNewFaultWithCause, CountsNoNewFaultOrLackOfMemory}
use Rattle.base_core.specs.Read.{OnlyReads}
use Rattle.base_core.specs.Tree.{TreeState}
use Rattle.base_core.proofs.Counting.{goes_on_twice, no_fault_twice}
use Rattle.change_report.specs.change_inputs.declared.root.Refused.{Refused}
use Rattle.change_report.specs.change_inputs.declared.root.Refused.TheVariants.{Disk, Memory}
use Rattle.engine_core.specs.Runs.{IsRunCounted}

-- behind calls that count no fault
pub counted_after : {A : Type 0} (a b c : Counts) (result : Result A Refused) → CountsOnlyRise a b → CountsNoNewFaultOrLackOfMemory a b → ((x y z : Counts) → CountsOnlyRise x y → CountsNewFaultWithCause y z → CountsNewFaultWithCause x z) → IsRunCounted b c result → IsRunCounted a c result
counted_after {A} a b c result on none cause counted = record {
  goes_on = goes_on_twice a b c on counted.goes_on;
  disk = λ is. cause a b c on (counted.disk is);
  kept = kept result counted.kept;
  others = others result counted.others;
}
  where
    kept : (r : Result A Refused) → OnOk r (CountsNoNewFaultOrLackOfMemory b c) → OnOk r (CountsNoNewFaultOrLackOfMemory a c)
    kept (Ok x) is = no_fault_twice a b c none is
    kept (Err e) is = tt

    others : (r : Result A Refused) → IfErr r (λ refused. (refused ≡ Disk → ⊥) → CountsNoNewFaultOrLackOfMemory b c) → IfErr r (λ refused. (refused ≡ Disk → ⊥) → CountsNoNewFaultOrLackOfMemory a c)
    others (Ok x) is = tt
    others (Err e) is = λ not. no_fault_twice a b c none (is not)

same_error : {A : Type 0} (r : Result A Refused) (e f : Refused) → r ≡ Err e → r ≡ Err f → e ≡ f
same_error r e f one other = cc

-- calls that only read, and end in an error
pub counted_error : {A B : Type 0} (old now : List TreeState) (a b : Counts) (fault : Refused) → OnlyReads {A = A} Disk old now a b (Err fault) → IsRunCounted {A = B} a b (Err fault)
counted_error old now a b fault reads = record { goes_on = reads.goes_on; disk = λ is. reads.disk (ap Err (same_error _ fault Disk refl is)); kept = tt; others = reads.others }

-- calls that only read, and then an end that is no I/O error
pub counted_fault : {A B : Type 0} (old now : List TreeState) (a b : Counts) (x : A) (fault : Refused) → (fault ≡ Disk → ⊥) → OnlyReads Disk old now a b (Ok x) → IsRunCounted {A = B} a b (Err fault)
counted_fault old now a b x fault never reads = record { goes_on = reads.goes_on; disk = λ is. absurd (never (same_error _ fault Disk refl is)); kept = tt; others = λ not. reads.kept }

pub counted_report : {A B : Type 0} (old now : List TreeState) (a b : Counts) (x : A) (report : B) → OnlyReads Disk old now a b (Ok x) → IsRunCounted {A = B} a b (Ok report)
counted_report old now a b x report reads = record { goes_on = reads.goes_on; disk = λ is. absurd (cc); kept = reads.kept; others = tt }

pub memory_no_disk : Memory ≡ Disk → ⊥
memory_no_disk is = cc
