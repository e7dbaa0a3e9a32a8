-- The claims of the packages before a change and after it, as values of the program.
-- No document has a rule for this: it serves the contracts of this crate; both sides denote a
-- *FileChange*.
use Rattle.std.specs.Prelude.{◌≡◌, List, map}
use Rattle.base_core.specs.Sorted.{sorted_by}
use Rattle.file_owners.specs.db_core.Members.{members_of_kept}
use Rattle.file_owners.specs.db_core.Seen.{members_of, packages_of}
use Rattle.path_claim_lists.specs.path_claims.Claims.{PathClaim, claim_cmp}
use Rattle.path_claim_lists.specs.path_claims.Seen.{claim_seen}
use Rattle.path_claim_lists.specs.Once.{HasFirstClaimOfEachPath}
use Rattle.file_owners.specs.Owners.{claims_in}
use Rattle.own_core.specs.FileChange.{FileChange}
use Rattle.own_core.specs.ClaimEntries.{AreClaimsOf}
use Rattle.own_core.specs.declared.claim_change.ClaimChange.{ClaimChange}

-- the change of files, from the packages of the old database to the members after the change
abbrev pub file_change_of : ClaimChange → FileChange
file_change_of c =
    record { old = packages_of c.db.now; members = members_of c.members.now; purge = c.purge }

-- the claims of the packages before the change, one for each path, in byte order of the paths
abbrev pub claims_before : ClaimChange → List PathClaim
claims_before c = map claim_seen c.before.now

-- all claims of the packages after the change, in byte order of the paths
abbrev pub claims_after : ClaimChange → List PathClaim
claims_after c = map claim_seen c.after.now

-- the two lists of claims are those of the packages: before the change one claim for each path, after it all claims
pub record HasClaimsOfPackages (c : ClaimChange) : Type 0 where
  -- `before` has the first claim of each path that the packages of the old database list
  pub before : HasFirstClaimOfEachPath
      (sorted_by claim_cmp (claims_in (members_of_kept (packages_of c.db.now))))
      (claims_before c)
  -- `after` has all claims of the members after the change, in byte order of the paths
  pub after : claims_after c ≡ sorted_by claim_cmp (claims_in (members_of c.members.now))
  -- each claim before is of a file of a package of the old database, and its path is a name
  pub old_files : AreClaimsOf (members_of_kept (packages_of c.db.now)) (claims_before c)
  -- each claim after is of a file of a member after the change, and its path is a name
  pub new_files : AreClaimsOf (members_of c.members.now) (claims_after c)
