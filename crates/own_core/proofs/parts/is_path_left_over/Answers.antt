use Rattle.std.proofs.Common.{◌∙◌, sym}
use Rattle.path_claim_lists.specs.adb_fields.JoinedPath.{joined_path}
use Rattle.own_core.specs.FileChange.{is_listed_after_change}
use Rattle.path_claim_lists.specs.path_claims.Seen.{claim_seen}
use Rattle.std.proofs.Common.{map}
use Rattle.own_core.specs.Going.{is_apk_new_name_of}
use Rattle.own_core.specs.Sides.{file_change_of}
use Rattle.own_core.proofs.ChangeClaims.{after_sorted, claimed_there, left_by, left_by_not}
use Rattle.own_core.proofs.parts.is_path_left_over.Goals as goal

pub find_next_claim-requires : goal.find_next_claim-requires
find_next_claim-requires c = after_sorted c.args.change.now c.requires.claims

pub returns-then-is_some : goal.returns-then-is_some
returns-then-is_some c =
    left_by (is_listed_after_change (file_change_of c.args.change.now) (joined_path c.args.path.now)) (is_apk_new_name_of (map claim_seen c.args.asides.now) (joined_path c.args.path.now))
    (claimed_there c.args.change.now c.requires.claims (joined_path c.args.path.now) c.is_some.result c.find_next_claim.result (sym c.is_some.ensures) c.find_next_claim.ensures.within c.find_next_claim.ensures.found ∙ c.if-is_some.true)

pub returns : goal.returns
returns c =
    left_by_not (is_listed_after_change (file_change_of c.args.change.now) (joined_path c.args.path.now)) (is_apk_new_name_of (map claim_seen c.args.asides.now) (joined_path c.args.path.now)) c.is_apk_new_name_of.result
    (claimed_there c.args.change.now c.requires.claims (joined_path c.args.path.now) c.is_some.result c.find_next_claim.result (sym c.is_some.ensures) c.find_next_claim.ensures.within c.find_next_claim.ensures.found ∙ c.if-is_some.false)
    c.is_apk_new_name_of.ensures
