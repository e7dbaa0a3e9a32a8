-- The files of a change, divided by what is done with them: the lists of claims in a `Parts` of the program, and what
-- they have to be.
-- The rules are in `docs/commands.md`, "What a change does with files". It serves the contract of
-- `parts_of` in `src/parts.rt`.
use Rattle.std.specs.Prelude.{◌≡◌, Bool, true, false, List, map}
use Rattle.std.specs.List.{filter}
use Rattle.base_core.specs.Tree.{TreeState}
use Rattle.path_claim_lists.specs.path_claims.Claims.{PathClaim}
use Rattle.path_claim_lists.specs.path_claims.Seen.{claim_seen}
use Rattle.own_core.specs.Fate as Fates
use Rattle.own_core.specs.Fate.{goes_aside, goes_in}
use Rattle.own_core.specs.Fates.{claim_fate, are_equal_fates, are_equal_flags, marked_claims}
use Rattle.own_core.specs.Found.{AreAnswersByFiles}
use Rattle.own_core.specs.Going.{is_file_kept, is_path_left_over}
use Rattle.own_core.specs.Sides.{claims_before, file_change_of}
use Rattle.own_core.specs.declared.claim_change.ClaimChange.{ClaimChange}
use Rattle.own_core.specs.declared.parts.Parts.{Parts}

-- the claims of the added files that are written under their own paths
abbrev pub written_claims_of : Parts → List PathClaim
written_claims_of parts = map claim_seen parts.ins.items

-- the claims of the added files that are written aside, as `PATH.apk-new` beside the user's file
abbrev pub apk_new_claims_of : Parts → List PathClaim
apk_new_claims_of parts = map claim_seen parts.asides.items

-- the claims, of packages before the change, of the files that are removed
abbrev pub removed_claims_of : Parts → List PathClaim
removed_claims_of parts = map claim_seen parts.removed.items

-- the claims, of packages before the change, of the files that are kept because the user changed them
abbrev pub kept_claims_of : Parts → List PathClaim
kept_claims_of parts = map claim_seen parts.kept.items

-- the claims of the packages before the change whose paths no package lists after it, and at which no file of the
-- claims `asides` is written aside
abbrev pub left_over_claims_of : ClaimChange → List PathClaim → List PathClaim
left_over_claims_of change asides =
    filter (λ c. is_path_left_over (file_change_of change) asides c.path) (claims_before change)

-- `parts` has the files of the change by what is done with them. Of the added files, whose claims are `coming`, some
-- are written under their paths, and some aside. Of the files that are left over, some are removed, and some kept.
pub record AreFilesByFate (change : ClaimChange) (history : List TreeState) (coming : List PathClaim)
    (parts : Parts) : Type 0 where
  -- the fate of each added file
  pub fates : List Fates.AddedFileFate
  -- for each file that is left over, whether it is kept
  pub stays : List Bool
  -- each fate is right for the file under the claim's path: the tree's, if the tree is observable
  pub fates_found : AreAnswersByFiles (claim_fate (file_change_of change)) history coming fates
  -- each flag is right for the file under the claim's path: the tree's, if the tree is observable
  pub stays_found : AreAnswersByFiles (is_file_kept (file_change_of change)) history
      (left_over_claims_of change (apk_new_claims_of parts)) stays
  -- `ins` are the claims whose fate is to be written under their paths
  pub ins : written_claims_of parts ≡ marked_claims (are_equal_fates goes_in) coming fates
  -- `asides` are the claims whose fate is to be written aside
  pub asides : apk_new_claims_of parts ≡ marked_claims (are_equal_fates goes_aside) coming fates
  -- `removed` are the claims of files left over that are not kept
  pub removed : removed_claims_of parts
      ≡ marked_claims (are_equal_flags false) (left_over_claims_of change (apk_new_claims_of parts)) stays
  -- `kept` are the claims of files left over that are kept
  pub kept : kept_claims_of parts
      ≡ marked_claims (are_equal_flags true) (left_over_claims_of change (apk_new_claims_of parts)) stays
