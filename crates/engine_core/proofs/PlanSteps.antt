-- The steps that read packages and plan only read the tree.
use Rattle.std.proofs.Common.{◌≡◌, List, Result, Ok, Err, refl, sym, ap, subst, ◌∙◌}
use Rattle.base_core.specs.Faults.{Counts}
use Rattle.base_core.specs.Read.{OnlyReads}
use Rattle.base_core.specs.Tree.{TreeState}
use Rattle.change_report.specs.change_inputs.declared.root.Refused.{Refused}
use Rattle.change_report.specs.change_inputs.declared.root.Refused.TheVariants as Commands
use Rattle.change_report.specs.own_core.declared.fault.PlanFault.{PlanFault}
use Rattle.change_report.specs.own_core.declared.fault.PlanFault.TheVariants as Plans
use Rattle.change_report.specs.own_core.declared.planning.FilePlan.{FilePlan}
use Rattle.engine_core.specs.Plans.{IsRefusalOfPlanFault}

pub plan_read : (old now : List TreeState) (before after : Counts) (plan : FilePlan) → OnlyReads {E = PlanFault} Plans.Disk old now before after (Ok plan) → OnlyReads {E = Refused} Commands.Disk old now before after (Ok plan)
plan_read old now before after plan reads = record { same = reads.same; goes_on = reads.goes_on; disk = λ is. absurd (cc); kept = reads.kept; others = tt; proper = reads.proper }

-- a refusal is an I/O error only if the plan ended by one
disk_by : (fault : PlanFault) (refused : Refused) → IsRefusalOfPlanFault fault refused → refused ≡ Commands.Disk → fault ≡ Plans.Disk
disk_by (Plans.Reserved path) refused is disk = absurd (cc)
disk_by (Plans.PathClash path other) refused is disk = absurd (cc)
disk_by (Plans.Owned path one two) refused is disk = absurd (cc)
disk_by Plans.Disk refused is disk = refl
disk_by Plans.Memory refused is disk = absurd (cc)

disk_of : (fault : PlanFault) (refused : Refused) → IsRefusalOfPlanFault fault refused → fault ≡ Plans.Disk → refused ≡ Commands.Disk
disk_of (Plans.Reserved path) refused is disk = absurd (cc)
disk_of (Plans.PathClash path other) refused is disk = absurd (cc)
disk_of (Plans.Owned path one two) refused is disk = absurd (cc)
disk_of Plans.Disk refused is disk = is
disk_of Plans.Memory refused is disk = absurd (cc)

same_error : {A E : Type 0} (r : Result A E) (e f : E) → r ≡ Err e → r ≡ Err f → e ≡ f
same_error r e f one other = cc

pub refused_read : (old now : List TreeState) (before after : Counts) (fault : PlanFault) (refused : Refused) → IsRefusalOfPlanFault fault refused
    → OnlyReads {A = FilePlan} {E = PlanFault} Plans.Disk old now before after (Err fault) → OnlyReads {A = FilePlan} {E = Refused} Commands.Disk old now before after (Err refused)
refused_read old now before after fault refused is reads = record {
  same = reads.same;
  goes_on = reads.goes_on;
  disk = λ failed. reads.disk (ap Err (disk_by fault refused is (same_error _ refused Commands.Disk refl failed)));
  kept = tt;
  others = λ not. reads.others (λ failed. not (disk_of fault refused is failed));
  proper = reads.proper;
}

-- ---- the same calls as those of a step

pub reads_fail : {A B : Type 0} (old now : List TreeState) (before after : Counts) (fault : Refused) → OnlyReads {A = A} Commands.Disk old now before after (Err fault) → OnlyReads {A = B} Commands.Disk old now before after (Err fault)
reads_fail old now before after fault reads = record {
  same = reads.same;
  goes_on = reads.goes_on;
  disk = λ failed. reads.disk (ap Err (same_error _ fault Commands.Disk refl failed));
  kept = tt;
  others = reads.others;
  proper = reads.proper;
}

pub reads_end : {A B : Type 0} (old now : List TreeState) (before after : Counts) (x : A) (fault : Refused) → (fault ≡ Commands.Disk → ⊥) → OnlyReads Commands.Disk old now before after (Ok x)
    → OnlyReads {A = B} Commands.Disk old now before after (Err fault)
reads_end old now before after x fault never reads = record {
  same = reads.same;
  goes_on = reads.goes_on;
  disk = λ failed. absurd (never (same_error _ fault Commands.Disk refl failed));
  kept = tt;
  others = λ not. reads.kept;
  proper = reads.proper;
}

pub reads_done : {A B : Type 0} (old now : List TreeState) (before after : Counts) (x : A) (y : B) → OnlyReads Commands.Disk old now before after (Ok x) → OnlyReads Commands.Disk old now before after (Ok y)
reads_done old now before after x y reads = record { same = reads.same; goes_on = reads.goes_on; disk = λ failed. absurd (cc); kept = reads.kept; others = tt; proper = reads.proper }
