use Rattle.std.proofs.Common.{◌≡◌, ℕ, Ok, Err, ap, refl, subst}
use Rattle.journal_staging.specs.Spoiled.{HasSpoiledFile}
use Rattle.journal_staging.specs.declared.writes.StagedWrite.{StagedWrite}
use Rattle.engine_core.specs.Rendering.{removals_of_plan}
use Rattle.engine_core.specs.Writing.{name_of_write}
use Rattle.std.specs.Prelude.{List, map}
use Rattle.engine_core.proofs.Carries.{bad_member, ends_by_bad, ends_by_disk, ends_well, new_stage_is, nothing_done, same_length, stage_of}
use Rattle.base_core.specs.Faults.{Counts, CountsOnlyRise, CountsNoNewFaultOrLackOfMemory}
use Rattle.base_core.specs.declared.cause.Cause.{Cause}
use Rattle.change_report.specs.change_inputs.declared.root.Refused.{Refused}
use Rattle.change_report.specs.change_inputs.declared.root.Refused.TheVariants.{Disk}
use Rattle.change_report.specs.db_core.Members.{Member}
use Rattle.change_report.specs.db_core.Seen.{members_of}
use Rattle.journal_staging.specs.declared.writes.StageFault.{StageFault}
use Rattle.journal_staging.specs.declared.writes.StageFault.TheVariants.{Bad, Disk as DiskFault}
use Rattle.engine_core.specs.Committing.{IsRefusedPackage}
use Rattle.engine_core.specs.Runs.{IsRunCounted}
use Rattle.engine_core.proofs.committing.commit.Goals as goal

-- a refused package counts no fault
bad_counted : (a b : Counts) (fault : StageFault) (member : ℕ) (cause : Cause) → fault ≡ Bad member cause → (members : List Member) (place : ℕ) (why : Cause) (refused : Refused) → IsRefusedPackage members place why refused
    → CountsOnlyRise a b → ((fault ≡ DiskFault → ⊥) → CountsNoNewFaultOrLackOfMemory a b) → IsRunCounted {A = List ℕ} a b (Err refused)
bad_counted a b fault member cause bad members place why refused is on none = record {
  goes_on = on;
  disk = λ failed. let same : refused ≡ Disk = cc in absurd (subst (λ (r : Refused). IsRefusedPackage members place why r) same is);
  kept = tt;
  others = λ not. none (λ disk. cc);
}

pub returns-in_default-clause-comes : goal.returns-in_default-clause-comes
returns-in_default-clause-comes g c = λ ready. nothing_done _ c.args.plan.now c.args.rendered ready c.in_default.is _

pub carry_out-requires-clause-new : goal.carry_out-requires-clause-new
carry_out-requires-clause-new g c =
    let r = c.args.rendered in
    let names = map name_of_write r.writes.items in
    let of = stage_of r.stage c.in-Some.stage (removals_of_plan c.args.plan.now) names c.in-Some.is c.requires.rendered.stage in
    new_stage_is c.in-Some.stage (removals_of_plan c.args.plan.now) names of.1

pub carry_out-requires-clause-same : goal.carry_out-requires-clause-same
carry_out-requires-clause-same g c =
    let r = c.args.rendered in
    let names = map name_of_write r.writes.items in
    let of = stage_of r.stage c.in-Some.stage (removals_of_plan c.args.plan.now) names c.in-Some.is c.requires.rendered.stage in
    same_length c.in-Some.stage (removals_of_plan c.args.plan.now) c.deref.result.now r.writes.items of.1 c.deref.ensures.value

pub returns-in-Ok-clause-comes : goal.returns-in-Ok-clause-comes
returns-in-Ok-clause-comes g c = λ ready.
    ends_well (g.T.Tree.history c.args.tree.now) c.args.plan.now c.args.rendered ready (λ place pkg is. c.a_package_that_was_read_is_that_of_its_file.ensures.file _ _ _ ready.found ready.planned.arrived.read.read place pkg is)
    c.in-Some.stage c.in-Some.is c.names_are_free.ensures.few c.deref.result.now c.deref.ensures.value (g.T.Tree.history c.carry_out.new.tree) (g.T.Tree.counts c.args.tree.now) (g.T.Tree.counts c.carry_out.new.tree) _ c.in-Ok.ensures.run c.in-Ok.ensures.proper refl

pub refused_package-requires : goal.refused_package-requires
refused_package-requires g c =
    let has = subst (λ (ws : List StagedWrite). HasSpoiledFile c.in-Err-Bad.member c.in-Err-Bad.cause ws) c.deref.ensures.value (c.in-Err-Bad.ensures.bad c.in-Err-Bad.member c.in-Err-Bad.cause (ap Err c.in-Err-Bad.field-0-is)) in
    rw c.in-Err-Bad.field-0-is (bad_member (g.T.Tree.history c.args.tree.now) c.args.plan.now c.args.rendered c.requires c.in-Err-Bad.member c.in-Err-Bad.cause has)

pub returns-in-Err-Bad-clause-comes : goal.returns-in-Err-Bad-clause-comes
returns-in-Err-Bad-clause-comes g c = λ ready.
    let has = subst (λ (ws : List StagedWrite). HasSpoiledFile c.in-Err-Bad.member c.in-Err-Bad.cause ws) c.deref.ensures.value (c.in-Err-Bad.ensures.bad c.in-Err-Bad.member c.in-Err-Bad.cause (ap Err c.in-Err-Bad.field-0-is)) in
    ends_by_bad (g.T.Tree.history c.args.tree.now) c.args.plan.now c.args.rendered ready (λ place pkg is. c.a_package_that_was_read_is_that_of_its_file.ensures.file _ _ _ ready.found ready.planned.arrived.read.read place pkg is)
    c.in-Some.stage c.in-Some.is c.names_are_free.ensures.few c.deref.result.now c.deref.ensures.value (g.T.Tree.history c.carry_out.new.tree) (g.T.Tree.counts c.args.tree.now) (g.T.Tree.counts c.carry_out.new.tree) _ c.in-Err-Bad.ensures.run c.in-Err-Bad.ensures.proper
    c.in-Err-Bad.member c.in-Err-Bad.cause has c.in-Err-Bad.field-0 c.in-Err-Bad.field-0-is refl c.refused_package.result (rw c.in-Err-Bad.field-0-is at c.refused_package.ensures)

pub returns-clause-comes : goal.returns-clause-comes
returns-clause-comes g c = λ ready.
    ends_by_disk (g.T.Tree.history c.args.tree.now) c.args.plan.now c.args.rendered ready (λ place pkg is. c.a_package_that_was_read_is_that_of_its_file.ensures.file _ _ _ ready.found ready.planned.arrived.read.read place pkg is)
    c.in-Some.stage c.in-Some.is c.names_are_free.ensures.few c.deref.result.now c.deref.ensures.value (g.T.Tree.history c.carry_out.new.tree) (g.T.Tree.counts c.args.tree.now) (g.T.Tree.counts c.carry_out.new.tree) _ c.in-Err-Disk.ensures.run c.in-Err-Disk.ensures.proper
    c.in-Err-Disk.field-0 c.in-Err-Disk.field-0-is refl

pub returns-in_default-clause-promised : goal.returns-in_default-clause-promised
returns-in_default-clause-promised g c = c.runs_with_accepted_targets_begin_with_reads.ensures.same _ _ refl

pub returns-in-Ok-clause-counts : goal.returns-in-Ok-clause-counts
returns-in-Ok-clause-counts g c = record { goes_on = c.in-Ok.ensures.goes_on; disk = λ is. absurd (cc); kept = c.in-Ok.ensures.kept; others = tt }

pub returns-in-Ok-clause-promised : goal.returns-in-Ok-clause-promised
returns-in-Ok-clause-promised g c = c.in-Ok.ensures.promised

pub returns-in-Err-Bad-clause-counts : goal.returns-in-Err-Bad-clause-counts
returns-in-Err-Bad-clause-counts g c =
    bad_counted _ _ c.in-Err-Bad.field-0 c.in-Err-Bad.member c.in-Err-Bad.cause c.in-Err-Bad.field-0-is (members_of c.args.plan.now.members) c.in-Err-Bad.member c.in-Err-Bad.cause c.refused_package.result (rw c.in-Err-Bad.field-0-is at c.refused_package.ensures) c.in-Err-Bad.ensures.goes_on c.in-Err-Bad.ensures.others

pub returns-in-Err-Bad-clause-promised : goal.returns-in-Err-Bad-clause-promised
returns-in-Err-Bad-clause-promised g c = c.in-Err-Bad.ensures.promised

pub returns-clause-counts : goal.returns-clause-counts
returns-clause-counts g c = record { goes_on = c.in-Err-Disk.ensures.goes_on; disk = λ is. c.in-Err-Disk.ensures.disk (ap Err c.in-Err-Disk.field-0-is); kept = tt; others = λ not. absurd (not refl) }

pub returns-clause-promised : goal.returns-clause-promised
returns-clause-promised g c = c.in-Err-Disk.ensures.promised
