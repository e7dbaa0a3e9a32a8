-- Nothing failed while a container was made and written.
use Rattle.std.proofs.Common.{◌≡◌, ◌≢◌, ◌⊎◌, inl, inr, false, List, Ok, Err, sym, ap, ◌∙◌}
use Rattle.std.specs.Prelude.{IfOk, IsErrOf, OnOk}
use Rattle.std.proofs.lemmas.Bool.{false≢true}
use Rattle.base_core.specs.Faults.{Counts, CountsOnlyRise, CountsNewFaultWithCause, CountsNoNewFaultOrLackOfMemory}
use Rattle.base_core.specs.Read.{OnlyReads}
use Rattle.base_core.specs.Tree.{TreeState}
use Rattle.base_core.specs.declared.tree.TreeFault.TheVariants.{Disk as NoTree, Memory as NoMemory}
use Rattle.base_core.proofs.Counting.{cause_later, cause_sooner, goes_on_twice}
use Rattle.make_core.specs.make_info.declared.fault.MakeFault.TheVariants.{Disk}
use Rattle.apk_front.specs.Containers.{is_making_ended_by_disk_or_memory}
use Rattle.apk_front.specs.RunContracts.{IsVerdictExplainedByCounts}
use Rattle.apk_front.proofs.Containers.{Container}
use Rattle.apk_front.proofs.Runs.{Judged}

-- what is said of two calls in a row
abbrev pub Join : Type 0
Join = (a b c : Counts) → CountsNoNewFaultOrLackOfMemory a b → CountsNoNewFaultOrLackOfMemory b c → CountsNoNewFaultOrLackOfMemory a c

not_lost : (container : Container) (old new : List TreeState) (a b : Counts) → container ≢ Err Disk → OnlyReads Disk old new a b container → CountsNoNewFaultOrLackOfMemory a b
not_lost (Ok file) old new a b apart tree = tree.kept
not_lost (Err why) old new a b apart tree = tree.others (λ is. apart (ap Err is))

-- what is reported was made, or refused for what it is
whole_not_lost : (container : Container) → is_making_ended_by_disk_or_memory container ≡ false → container ≢ Err Disk
whole_not_lost container whole lost = false≢true (sym whole ∙ ap is_making_ended_by_disk_or_memory lost)

kept_both : Join → (container : Container) (judged : Judged) (old new : List TreeState) (a b c : Counts) → OnlyReads Disk old new a b container → IfOk judged (λ verdict. is_making_ended_by_disk_or_memory container ≡ false) → OnOk judged (CountsNoNewFaultOrLackOfMemory b c) → OnOk judged (CountsNoNewFaultOrLackOfMemory a c)
kept_both join container (Ok verdict) old new a b c tree whole after = join a b c (not_lost container old new a b (whole_not_lost container whole) tree) after
kept_both join container (Err e) old new a b c tree whole after = tt

memory_both : Join → (container : Container) (judged : Judged) (old new : List TreeState) (a b c : Counts) → OnlyReads Disk old new a b container → (IsErrOf judged NoMemory → container ≢ Err Disk) → (IsErrOf judged NoMemory → CountsNoNewFaultOrLackOfMemory b c)
    → IsErrOf judged NoMemory → CountsNoNewFaultOrLackOfMemory a c
memory_both join container judged old new a b c tree lost after none = join a b c (not_lost container old new a b (lost none) tree) (after none)

-- so the counts explain the verdict
pub counted_both : Join → (container : Container) (judged : Judged) (old new : List TreeState) (a b c : Counts) → OnlyReads Disk old new a b container
    → IfOk judged (λ verdict. is_making_ended_by_disk_or_memory container ≡ false) → (IsErrOf judged NoMemory → container ≢ Err Disk)
    → CountsOnlyRise b c → (IsErrOf judged NoTree → IsErrOf container Disk ⊎ CountsNewFaultWithCause b c) → OnOk judged (CountsNoNewFaultOrLackOfMemory b c) → (IsErrOf judged NoMemory → CountsNoNewFaultOrLackOfMemory b c)
    → IsVerdictExplainedByCounts a c judged
counted_both join container judged old new a b c tree whole lost on disk kept memory = record {
  goes_on = goes_on_twice a b c tree.goes_on on;
  disk = λ is. elim (disk is) [ inl reading ↦ cause_sooner a b c (tree.disk reading) on | inr writing ↦ cause_later a b c tree.goes_on writing ];
  kept = kept_both join container judged old new a b c tree whole kept;
  memory = memory_both join container judged old new a b c tree lost memory;
}
