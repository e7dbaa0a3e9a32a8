use Rattle.std.proofs.Common.{◌∙◌, ℕ, List, Option, ap, map, sym}
use Rattle.std.specs.Prelude.{is_some, option_and_then, option_map}
use Rattle.std.specs.List.{find}
use Rattle.path_claim_lists.specs.adb_fields.JoinedPath.{joined_path}
use Rattle.path_claim_lists.specs.path_claims.Claims.{is_claim_of_path}
use Rattle.path_claim_lists.specs.path_claims.Seen.{claim_seen}
use Rattle.own_core.proofs.ChangeClaims.{found_or_not}
use Rattle.own_core.proofs.parts.is_apk_new_name_of.Goals as goal

pub find_claim-requires : goal.find_claim-requires
find_claim-requires c = c.requires

pub returns-in-Some : goal.returns-in-Some
returns-in-Some c =
    c.is_some.ensures
    ∙ (found_or_not c.args.asides.now (joined_path c.in-Some.beside) c.find_claim.result c.find_claim.ensures.within c.find_claim.ensures.found
    ∙ ap (λ (o : Option (List ℕ)). is_some (option_and_then (λ path. find (is_claim_of_path path) (map claim_seen c.args.asides.now)) o)) (ap (option_map joined_path) (sym c.in-Some.is) ∙ c.path_of_apk_new_name.ensures))

pub returns-in-None : goal.returns-in-None
returns-in-None c =
    ap (λ (o : Option (List ℕ)). is_some (option_and_then (λ path. find (is_claim_of_path path) (map claim_seen c.args.asides.now)) o)) (ap (option_map joined_path) (sym c.in-None.is) ∙ c.path_of_apk_new_name.ensures)
