use Rattle.std.proofs.Common.{◌∙◌, ap, map}
use Rattle.base_core.specs.Sorted.{sorted_by}
use Rattle.db_core.specs.Members.{member_of_kept}
use Rattle.db_core.specs.Seen.{packages_of}
use Rattle.path_claims.specs.Claims.{claim_cmp}
use Rattle.file_owners.proofs.Claiming.{all_gathered}
use Rattle.file_owners.proofs.database.claims_in_database.Goals as goal

pub returns : goal.returns
returns c = c.in_ok-sort_claims.ensures ∙ ap (sorted_by claim_cmp) (c.in_ok-sorted.ensures ∙ all_gathered (map member_of_kept (packages_of c.args.db.now)))
