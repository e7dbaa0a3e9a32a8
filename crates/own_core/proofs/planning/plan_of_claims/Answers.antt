use Rattle.std.proofs.Common.{◌∙◌, Err, ap, map, refl, sym}
use Rattle.base_core.specs.declared.tree.TreeFault.TheVariants as TreeFaults
use Rattle.path_claim_lists.specs.path_claims.Seen.{claim_seen}
use Rattle.own_core.specs.declared.fault.PlanFault.TheVariants.{Disk, Memory, PathClash}
use Rattle.own_core.proofs.PartsMeaning.{asides_named, coming_claims_of, ins_named, kept_named, removed_named}
use Rattle.own_core.proofs.WholePlan.{both_read, clash_may_be, contest_may_be, plan_is}
use Rattle.std.specs.Prelude.{option_map}
use Rattle.file_owners.specs.db_core.Seen.{members_of}
use Rattle.path_claim_lists.specs.path_claims.ContestedSeen.{contested_seen}
use Rattle.own_core.specs.FaultsSeen.{fault_of_tree}
use Rattle.own_core.specs.Sides.{file_change_of}
use Rattle.own_core.proofs.AfterReads.{clash_not_disk, contest_not_disk, contest_refuses, fault_is, first_found, memory_not_disk, read_then_fails, says_nothing, tree_of_members, tree_over_any, tree_over_files}
use Rattle.own_core.proofs.planning.plan_of_claims.Goals as goal

pub parts_of-requires-clause-files : goal.parts_of-requires-clause-files
parts_of-requires-clause-files g c = coming_claims_of c.args.change.now c.requires.claims (map claim_seen c.args.coming.now) c.requires.firsts

pub clash_of-requires-clause-files : goal.clash_of-requires-clause-files
clash_of-requires-clause-files g c = coming_claims_of c.args.change.now c.requires.claims (map claim_seen c.args.coming.now) c.requires.firsts

pub lists_of-requires-clause-removed : goal.lists_of-requires-clause-removed
lists_of-requires-clause-removed g c = removed_named c.args.change.now _ (map claim_seen c.args.coming.now) c.in_ok-parts.parts c.requires.claims c.in_ok-parts.ensures.parts

pub lists_of-requires-clause-kept : goal.lists_of-requires-clause-kept
lists_of-requires-clause-kept g c = kept_named c.args.change.now _ (map claim_seen c.args.coming.now) c.in_ok-parts.parts c.requires.claims c.in_ok-parts.ensures.parts

pub lists_of-requires-clause-ins : goal.lists_of-requires-clause-ins
lists_of-requires-clause-ins g c =
    ins_named c.args.change.now _ (map claim_seen c.args.coming.now) c.in_ok-parts.parts (coming_claims_of c.args.change.now c.requires.claims (map claim_seen c.args.coming.now) c.requires.firsts) c.in_ok-parts.ensures.parts

pub lists_of-requires-clause-asides : goal.lists_of-requires-clause-asides
lists_of-requires-clause-asides g c =
    asides_named c.args.change.now _ (map claim_seen c.args.coming.now) c.in_ok-parts.parts (coming_claims_of c.args.change.now c.requires.claims (map claim_seen c.args.coming.now) c.requires.firsts) c.in_ok-parts.ensures.parts

pub returns-clause-plan : goal.returns-clause-plan
returns-clause-plan g c =
    plan_is c.args.change.now c.requires.claims (map claim_seen c.args.coming.now) c.requires.firsts c.in_ok-parts.parts _ c.in_ok-parts.ensures.parts c.args.owned.items c.in_ok-plan.plan c.in_ok-plan.ensures
    _ c.in_ok-parts.ensures.tree.same c.in_ok-clash.clash c.in_default.is c.in_ok-clash.ensures.clash c.in_ok-clash.ensures.may

pub returns-clause-tree : goal.returns-clause-tree
returns-clause-tree g c =
    both_read TreeFaults.Disk Disk _ _ _ _ _ _ c.in_ok-parts.parts c.in_ok-clash.clash c.in_ok-plan.plan c.in_ok-parts.ensures.tree c.in_ok-clash.ensures.tree

pub returns-in-Some-clause-may : goal.returns-in-Some-clause-may
returns-in-Some-clause-may g c =
    clash_may_be c.args.change.now c.requires.claims (map claim_seen c.args.coming.now) c.requires.firsts c.in_ok-parts.parts _ c.in_ok-parts.ensures.parts c.in_ok-clash.clash c.in-Some.clash c.in-Some.is c.in_ok-clash.ensures.may

pub returns-in-Some-contested-clause-may : goal.returns-in-Some-contested-clause-may
returns-in-Some-contested-clause-may g c =
    contest_may_be c.args.change.now c.requires.claims (map claim_seen c.args.coming.now) c.requires.firsts c.in_ok-parts.parts _ c.in_ok-parts.ensures.parts c.in_ok-fault.fault c.in_ok-fault.ensures
    c.in_ok-clash.clash c.in_default.is c.in_ok-clash.ensures.may

pub returns-clause-lists : goal.returns-clause-lists
returns-clause-lists g c = record {
  owned = c.in_ok-plan.ensures.owned ∙ c.requires.owned;
  allowed = c.requires.unreserved;
  owners = sym c.requires.contested ∙ ap (option_map contested_seen) c.in_default-contested.is;
}

pub returns-in-Some-clause-refusal : goal.returns-in-Some-clause-refusal
returns-in-Some-clause-refusal g c =
    first_found (file_change_of c.args.change.now) _ _ c.in_ok-clash.clash c.in-Some.clash c.in_ok-parts.ensures.tree.same c.in-Some.is c.in_ok-clash.ensures.clash

pub returns-in-Some-clause-cause : goal.returns-in-Some-clause-cause
returns-in-Some-clause-cause g c = c.requires.unreserved

pub returns-in-Some-contested-clause-cause : goal.returns-in-Some-contested-clause-cause
returns-in-Some-contested-clause-cause g c = contest_refuses (members_of c.args.change.now.members.now) c.in_ok-fault.fault c.requires.unreserved c.in_ok-fault.ensures

pub parts_of-requires-clause-rising : goal.parts_of-requires-clause-rising
parts_of-requires-clause-rising g c = c.requires.firsts.rising

pub contest-requires-clause-contested : goal.contest-requires-clause-contested
contest-requires-clause-contested g c = sym c.requires.contested ∙ ap (option_map contested_seen) c.in-Some-contested.is

pub returns-in_err-fault : goal.returns-in_err-fault
returns-in_err-fault g c = rw (fault_is Memory c.from_residual-in_err-fault.result c.from_residual-in_err-fault.ensures.1) (record {
  plan = tt;
  lists = tt;
  refusal = says_nothing _;
  may = tt;
  cause = tt;
  tree = read_then_fails TreeFaults.Disk Disk Memory _ _ _ _ c.in_ok-clash.clash (Err Memory) refl memory_not_disk
      (both_read TreeFaults.Disk TreeFaults.Disk _ _ _ _ _ _ c.in_ok-parts.parts c.in_ok-clash.clash c.in_ok-clash.clash c.in_ok-parts.ensures.tree c.in_ok-clash.ensures.tree);
})

pub returns-in_err-plan : goal.returns-in_err-plan
returns-in_err-plan g c = rw (fault_is Memory c.from_residual-in_err-plan.result c.from_residual-in_err-plan.ensures.1) (record {
  plan = tt;
  lists = tt;
  refusal = says_nothing _;
  may = tt;
  cause = tt;
  tree = read_then_fails TreeFaults.Disk Disk Memory _ _ _ _ c.in_ok-clash.clash (Err Memory) refl memory_not_disk
      (both_read TreeFaults.Disk TreeFaults.Disk _ _ _ _ _ _ c.in_ok-parts.parts c.in_ok-clash.clash c.in_ok-clash.clash c.in_ok-parts.ensures.tree c.in_ok-clash.ensures.tree);
})

pub returns-in-Some-clause-tree : goal.returns-in-Some-clause-tree
returns-in-Some-clause-tree g c =
    read_then_fails TreeFaults.Disk Disk (PathClash c.in-Some.clash.path c.in-Some.clash.other) _ _ _ _ c.in_ok-clash.clash (Err (PathClash c.in-Some.clash.path c.in-Some.clash.other)) refl (clash_not_disk c.in-Some.clash.path c.in-Some.clash.other)
    (both_read TreeFaults.Disk TreeFaults.Disk _ _ _ _ _ _ c.in_ok-parts.parts c.in_ok-clash.clash c.in_ok-clash.clash c.in_ok-parts.ensures.tree c.in_ok-clash.ensures.tree)

pub returns-in-Some-contested-clause-tree : goal.returns-in-Some-contested-clause-tree
returns-in-Some-contested-clause-tree g c =
    read_then_fails TreeFaults.Disk Disk c.in_ok-fault.fault _ _ _ _ c.in_ok-clash.clash (Err c.in_ok-fault.fault) refl (contest_not_disk (members_of c.args.change.now.members.now) c.in_ok-fault.fault c.in_ok-fault.ensures)
    (both_read TreeFaults.Disk TreeFaults.Disk _ _ _ _ _ _ c.in_ok-parts.parts c.in_ok-clash.clash c.in_ok-clash.clash c.in_ok-parts.ensures.tree c.in_ok-clash.ensures.tree)

pub returns-in_err-parts-clause-refusal : goal.returns-in_err-parts-clause-refusal
returns-in_err-parts-clause-refusal g c = rw (fault_is (fault_of_tree c.in_err-parts.field-0.0) c.from_residual.result c.from_residual.ensures.1) (tree_over_files (file_change_of c.args.change.now) _ c.in_err-parts.field-0.0)

pub returns-in_err-parts-clause-may : goal.returns-in_err-parts-clause-may
returns-in_err-parts-clause-may g c = rw (fault_is (fault_of_tree c.in_err-parts.field-0.0) c.from_residual.result c.from_residual.ensures.1) (tree_over_any (file_change_of c.args.change.now) _ c.in_err-parts.field-0.0)

pub returns-in_err-parts-clause-cause : goal.returns-in_err-parts-clause-cause
returns-in_err-parts-clause-cause g c = rw (fault_is (fault_of_tree c.in_err-parts.field-0.0) c.from_residual.result c.from_residual.ensures.1) (tree_of_members (members_of c.args.change.now.members.now) c.in_err-parts.field-0.0 c.requires.unreserved)

pub returns-in_err-clash-clause-refusal : goal.returns-in_err-clash-clause-refusal
returns-in_err-clash-clause-refusal g c = rw (fault_is (fault_of_tree c.in_err-clash.field-0.0) c.from_residual-in_err-clash.result c.from_residual-in_err-clash.ensures.1) (tree_over_files (file_change_of c.args.change.now) _ c.in_err-clash.field-0.0)

pub returns-in_err-clash-clause-may : goal.returns-in_err-clash-clause-may
returns-in_err-clash-clause-may g c = rw (fault_is (fault_of_tree c.in_err-clash.field-0.0) c.from_residual-in_err-clash.result c.from_residual-in_err-clash.ensures.1) (tree_over_any (file_change_of c.args.change.now) _ c.in_err-clash.field-0.0)

pub returns-in_err-clash-clause-cause : goal.returns-in_err-clash-clause-cause
returns-in_err-clash-clause-cause g c = rw (fault_is (fault_of_tree c.in_err-clash.field-0.0) c.from_residual-in_err-clash.result c.from_residual-in_err-clash.ensures.1) (tree_of_members (members_of c.args.change.now.members.now) c.in_err-clash.field-0.0 c.requires.unreserved)
