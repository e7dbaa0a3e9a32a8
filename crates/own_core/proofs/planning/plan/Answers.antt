use Rattle.std.proofs.Common.{◌∙◌, List, Err, refl, ap, sym, subst, map}
use Rattle.std.specs.List.{filter}
use Rattle.path_claim_lists.specs.Once.{HasFirstClaimOfEachPath}
use Rattle.file_owners.specs.db_core.Members.{members_of_kept}
use Rattle.file_owners.specs.db_core.Seen.{members_of, packages_of}
use Rattle.file_owners.specs.Owners.{claims_in, owner_of_path}
use Rattle.path_claim_lists.specs.path_claims.Seen.{claim_seen}
use Rattle.path_claim_lists.specs.path_claims.declared.claim.Claim.{Claim}
use Rattle.path_claim_lists.proofs.path_claims.Whole.{is_sorted}
use Rattle.own_core.specs.ClaimEntries.{is_of_added_owner}
use Rattle.own_core.specs.Sides.{HasClaimsOfPackages}
use Rattle.own_core.specs.declared.claim_change.ClaimChange.{ClaimChange}
use Rattle.own_core.proofs.Listings.{are_claims}
use Rattle.own_core.specs.Planned.{file_change_between}
use Rattle.own_core.proofs.OwnNames.{names_if_planned, sources_if_planned}
use Rattle.own_core.proofs.PlanParts.{has_claims}
use Rattle.own_core.proofs.WholePlan.{firsts_over}
use Rattle.own_core.specs.declared.fault.PlanFault.TheVariants.{Disk, Memory, Reserved}
use Rattle.own_core.proofs.AfterReads.{fails_unread, fault_is, memory_not_disk, reserved_not_disk, says_nothing}
use Rattle.own_core.proofs.planning.plan.Goals as goal

pub first_reserved_added_path_in_byte_order-requires-clause-files : goal.first_reserved_added_path_in_byte_order-requires-clause-files
first_reserved_added_path_in_byte_order-requires-clause-files g c =
    are_claims (members_of c.args.after.now) (map claim_seen c.deref.result.now) c.listed_paths_are_names-2.ensures (ap (map claim_seen) c.deref.ensures.value ∙ c.in_ok-found.ensures.claims)

pub one_of_each_path-requires : goal.one_of_each_path-requires
one_of_each_path-requires g c =
    is_sorted (claims_in (members_of_kept (packages_of c.args.old.now))) (map claim_seen c.in_ok-listed.listed.items) c.in_ok-listed.ensures

pub added_claims-requires-clause-files : goal.added_claims-requires-clause-files
added_claims-requires-clause-files g c =
    are_claims (members_of c.args.after.now) (map claim_seen c.deref-4.result.now) c.listed_paths_are_names-2.ensures (ap (map claim_seen) c.deref-4.ensures.value ∙ c.in_ok-found.ensures.claims)

pub added_claims-requires-clause-sorted : goal.added_claims-requires-clause-sorted
added_claims-requires-clause-sorted g c =
    is_sorted (claims_in (members_of c.args.after.now)) (map claim_seen c.deref-4.result.now) (ap (map claim_seen) c.deref-4.ensures.value ∙ c.in_ok-found.ensures.claims)

pub plan_of_claims-requires-clause-claims : goal.plan_of_claims-requires-clause-claims
plan_of_claims-requires-clause-claims g c =
    let change : ClaimChange = record {
      db = record { ref_ptr = c.args.old.ref_ptr; now = c.args.old.now };
      members = record { ref_ptr = c.args.after.ref_ptr; now = c.args.after.now };
      before = record { ref_ptr = c.deref-2.result.ref_ptr; now = c.deref-2.result.now };
      after = record { ref_ptr = c.deref-3.result.ref_ptr; now = c.deref-3.result.now };
      purge = c.args.purge;
    } in
    let claims : HasClaimsOfPackages change = has_claims change c.listed_paths_are_names.ensures c.listed_paths_are_names-2.ensures (map claim_seen c.in_ok-listed.listed.items) c.in_ok-listed.ensures
    (subst (λ (xs : List Claim). HasFirstClaimOfEachPath (map claim_seen c.in_ok-listed.listed.items) (map claim_seen xs)) (sym c.deref-2.ensures.value) c.in_ok-before.ensures.firsts)
    (ap (map claim_seen) c.deref-3.ensures.value ∙ c.in_ok-found.ensures.claims) in
    claims

pub plan_of_claims-requires-clause-firsts : goal.plan_of_claims-requires-clause-firsts
plan_of_claims-requires-clause-firsts g c =
    let firsts : HasFirstClaimOfEachPath (filter (is_of_added_owner (members_of c.args.after.now)) (map claim_seen c.deref-3.result.now)) (map claim_seen c.deref-6.result.now) =
    firsts_over (members_of c.args.after.now) c.deref-3.result.now c.deref-4.result.now c.in_ok-coming.coming.items c.deref-6.result.now (c.deref-4.ensures.value ∙ sym c.deref-3.ensures.value) c.deref-6.ensures.value c.in_ok-coming.ensures in
    firsts

pub returns-clause-names : goal.returns-clause-names
returns-clause-names g c =
    names_if_planned (file_change_between c.args.old.now c.args.after.now c.args.purge) _ c.plan_of_claims.result c.listed_paths_are_names.ensures c.no_listed_path_is_reserved.ensures c.listed_paths_are_names-2.ensures
    c.plan_of_claims.ensures.plan c.plan_of_claims.ensures.lists

pub returns-clause-sources : goal.returns-clause-sources
returns-clause-sources g c =
    sources_if_planned (file_change_between c.args.old.now c.args.after.now c.args.purge) _ c.plan_of_claims.result c.listed_paths_are_names.ensures c.no_listed_path_is_reserved.ensures c.listed_paths_are_names-2.ensures
    c.plan_of_claims.ensures.plan c.plan_of_claims.ensures.lists

pub first_reserved_added_path_in_byte_order-requires-clause-sorted : goal.first_reserved_added_path_in_byte_order-requires-clause-sorted
first_reserved_added_path_in_byte_order-requires-clause-sorted g c = ap (map claim_seen) c.deref.ensures.value ∙ c.in_ok-found.ensures.claims

pub added_claims-requires-clause-owners : goal.added_claims-requires-clause-owners
added_claims-requires-clause-owners g c =
    c.deref-5.ensures.value ∙ (c.in_ok-found.ensures.owners ∙ ap (λ (xs : List Claim). map (λ d. owner_of_path (members_of c.args.after.now) d.path) (map claim_seen xs)) (sym c.deref-4.ensures.value))

pub plan_of_claims-requires-clause-contested : goal.plan_of_claims-requires-clause-contested
plan_of_claims-requires-clause-contested g c = c.in_ok-found.ensures.contested

pub plan_of_claims-requires-clause-owned : goal.plan_of_claims-requires-clause-owned
plan_of_claims-requires-clause-owned g c = c.in_ok-found.ensures.owned

pub plan_of_claims-requires-clause-unreserved : goal.plan_of_claims-requires-clause-unreserved
plan_of_claims-requires-clause-unreserved g c = sym c.in_ok-reserved.ensures ∙ c.in_default.is

pub plan_of_claims-requires-clause-named : goal.plan_of_claims-requires-clause-named
plan_of_claims-requires-clause-named g c = c.listed_paths_are_names-2.ensures

pub returns-clause-plan : goal.returns-clause-plan
returns-clause-plan g c = c.plan_of_claims.ensures.plan

pub returns-clause-lists : goal.returns-clause-lists
returns-clause-lists g c = c.plan_of_claims.ensures.lists

pub returns-clause-refusal : goal.returns-clause-refusal
returns-clause-refusal g c = c.plan_of_claims.ensures.refusal

pub returns-clause-may : goal.returns-clause-may
returns-clause-may g c = c.plan_of_claims.ensures.may

pub returns-clause-cause : goal.returns-clause-cause
returns-clause-cause g c = c.plan_of_claims.ensures.cause

pub returns-clause-tree : goal.returns-clause-tree
returns-clause-tree g c = c.plan_of_claims.ensures.tree

pub returns-in_err-found : goal.returns-in_err-found
returns-in_err-found g c = rw (fault_is Memory c.from_residual.result c.from_residual.ensures.1) (record {
  plan = tt;
  names = tt;
  sources = tt;
  lists = tt;
  refusal = says_nothing _;
  may = tt;
  cause = tt;
  tree = fails_unread Disk Memory _ _ (Err Memory) refl memory_not_disk;
})

pub returns-in_err-reserved : goal.returns-in_err-reserved
returns-in_err-reserved g c = rw (fault_is Memory c.from_residual-in_err-reserved.result c.from_residual-in_err-reserved.ensures.1) (record {
  plan = tt;
  names = tt;
  sources = tt;
  lists = tt;
  refusal = says_nothing _;
  may = tt;
  cause = tt;
  tree = fails_unread Disk Memory _ _ (Err Memory) refl memory_not_disk;
})

pub returns-in_err-listed : goal.returns-in_err-listed
returns-in_err-listed g c = rw (fault_is Memory c.from_residual-in_err-listed.result c.from_residual-in_err-listed.ensures.1) (record {
  plan = tt;
  names = tt;
  sources = tt;
  lists = tt;
  refusal = says_nothing _;
  may = tt;
  cause = tt;
  tree = fails_unread Disk Memory _ _ (Err Memory) refl memory_not_disk;
})

pub returns-in_err-before : goal.returns-in_err-before
returns-in_err-before g c = rw (fault_is Memory c.from_residual-in_err-before.result c.from_residual-in_err-before.ensures.1) (record {
  plan = tt;
  names = tt;
  sources = tt;
  lists = tt;
  refusal = says_nothing _;
  may = tt;
  cause = tt;
  tree = fails_unread Disk Memory _ _ (Err Memory) refl memory_not_disk;
})

pub returns-in_err-coming : goal.returns-in_err-coming
returns-in_err-coming g c = rw (fault_is Memory c.from_residual-in_err-coming.result c.from_residual-in_err-coming.ensures.1) (record {
  plan = tt;
  names = tt;
  sources = tt;
  lists = tt;
  refusal = says_nothing _;
  may = tt;
  cause = tt;
  tree = fails_unread Disk Memory _ _ (Err Memory) refl memory_not_disk;
})

pub returns-in-Some : goal.returns-in-Some
returns-in-Some g c = record {
  plan = tt;
  names = tt;
  sources = tt;
  lists = tt;
  refusal = says_nothing _;
  may = tt;
  cause = sym c.in_ok-reserved.ensures ∙ c.in-Some.is;
  tree = fails_unread Disk (Reserved c.in-Some.path) _ _ (Err (Reserved c.in-Some.path)) refl (reserved_not_disk c.in-Some.path);
}
