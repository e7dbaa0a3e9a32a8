use Rattle.std.proofs.Common.{List, map, subst, sym}
use Rattle.std.specs.Prelude.{IfOk}
use Rattle.std.specs.List.Sorted.{IsSorted}
use Rattle.std.specs.Ordering.{is_lt}
use Rattle.std.proofs.lemmas.List.Kept.{IsSortedBy-filter}
use Rattle.base_core.proofs.Sorting.{ranks}
use Rattle.file_owners.specs.db_core.Seen.{members_of}
use Rattle.path_claim_lists.specs.path_claims.Claims.{PathClaim, claim_cmp}
use Rattle.path_claim_lists.specs.path_claims.Seen.{claim_seen}
use Rattle.path_claim_lists.specs.Once.{HasFirstClaimOfEachPath}
use Rattle.path_claim_lists.proofs.path_claims.ClaimOrder.{claims_total}
use Rattle.own_core.specs.ClaimEntries.{is_of_added_owner}
use Rattle.own_core.proofs.coming.added_claims.Goals as goal

pub one_of_each_path-requires : goal.one_of_each_path-requires
one_of_each_path-requires c =
    subst (IsSorted claim_cmp) (sym c.in_ok-owned.ensures)
    (IsSortedBy-filter (λ x y. is_lt (claim_cmp x y)) (ranks claim_cmp claims_total) (is_of_added_owner (members_of c.args.members.now)) (map claim_seen c.args.claims.now) c.requires.sorted)

pub owned_claims-requires-clause-files : goal.owned_claims-requires-clause-files
owned_claims-requires-clause-files c = c.requires.files

pub owned_claims-requires-clause-owners : goal.owned_claims-requires-clause-owners
owned_claims-requires-clause-owners c = c.requires.owners

pub returns : goal.returns
returns c =
    subst (λ (cs : List PathClaim). IfOk c.one_of_each_path.result (λ coming. HasFirstClaimOfEachPath cs (map claim_seen coming.items))) c.in_ok-owned.ensures c.one_of_each_path.ensures.firsts
