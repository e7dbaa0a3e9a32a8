use Rattle.std.proofs.Common.{refl}
use Rattle.path_claim_lists.specs.adb_fields.JoinedPath.{joined_path}
use Rattle.path_claim_lists.specs.path_claims.Seen.{claim_seen}
use Rattle.path_claim_lists.proofs.path_claims.Places.{seen_at}
use Rattle.own_core.proofs.ChangeClaims.{before_sorted, entry_found, none_found}
use Rattle.own_core.proofs.fate.listed_so_far.Goals as goal

pub find_claim-requires : goal.find_claim-requires
find_claim-requires c = before_sorted c.args.change.now c.requires

pub listed_before-requires : goal.listed_before-requires
listed_before-requires c = c.requires.old_files c.in-Some.i _ (seen_at claim_seen c.args.change.now.before.now c.in-Some.i _ c.in-Some.ensures.within)

pub returns-in-Some : goal.returns-in-Some
returns-in-Some c = entry_found c.args.change.now c.requires (joined_path c.args.path.now) c.listed_before.result c.args.change.now.before.now c.in-Some.i _ refl c.in-Some.ensures.within c.in-Some.ensures.found c.listed_before.ensures

pub returns-in-None : goal.returns-in-None
returns-in-None c = none_found c.args.change.now c.requires (joined_path c.args.path.now) c.in-None.ensures.found
