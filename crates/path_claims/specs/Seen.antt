-- Claims of the program as contracts see them.
-- No document has a rule for this: it serves the contracts of `src/claim.rt`, whose paths have their
-- folders and names apart.
use Rattle.adb_fields.specs.JoinedPath.{joined_path}
use Rattle.path_claims.specs.Claims.{PathClaim}
use Rattle.path_claims.specs.declared.claim.Claim.{Claim}

-- a `Claim` of the program as contracts see it: the folder and the name of its path are joined
abbrev pub claim_seen : Claim → PathClaim
claim_seen c = record {
  path = joined_path c.path;
  member = c.member;
  folder = c.folder;
  file = c.file;
  number = c.number;
}
