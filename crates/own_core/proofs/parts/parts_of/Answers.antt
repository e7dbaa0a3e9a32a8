use Rattle.std.proofs.Common.{◌≡◌, ◌∙◌, List, true, false, ap, subst, map}
use Rattle.std.specs.List.{filter}
use Rattle.base_core.specs.Tree.{TreeState}
use Rattle.base_core.proofs.Rising.{rises_from_pairs}
use Rattle.file_owners.specs.db_core.Members.{members_of_kept}
use Rattle.file_owners.specs.db_core.Seen.{packages_of}
use Rattle.own_core.specs.Fate.{goes_aside}
use Rattle.path_claim_lists.proofs.Firsts.{paths}
use Rattle.path_claim_lists.specs.path_claims.Claims.{PathClaim}
use Rattle.path_claim_lists.specs.path_claims.Seen.{claim_seen}
use Rattle.own_core.specs.Fates.{are_equal_fates, are_equal_flags, marked_claims}
use Rattle.own_core.specs.Found.{AreAnswersByFiles}
use Rattle.own_core.specs.Going.{is_file_kept, is_path_left_over}
use Rattle.own_core.specs.Parts.{left_over_claims_of}
use Rattle.own_core.specs.Sides.{claims_before, file_change_of}
use Rattle.path_claim_lists.specs.path_claims.declared.claim.Claim.{Claim}
use Rattle.own_core.proofs.MarkedClaims.{files_kept, marked_sorted}
use Rattle.own_core.proofs.parts.parts_of.Goals as goal

pub left_over_claims-requires-clause-sorted : goal.left_over_claims-requires-clause-sorted
left_over_claims-requires-clause-sorted g c =
    marked_sorted (are_equal_fates goes_aside) (map claim_seen c.args.coming.now) (map claim_seen c.deref.result.now) c.in_ok-added.ensures.files.answers (rises_from_pairs (paths (map claim_seen c.args.coming.now)) c.requires.rising)
    (ap (map claim_seen) c.deref.ensures.value ∙ c.in_ok-added.ensures.files.passing_second)

pub left_over_files-requires : goal.left_over_files-requires
left_over_files-requires g c =
    files_kept (members_of_kept (packages_of c.args.change.now.db.now)) (λ d. is_path_left_over (file_change_of c.args.change.now) (map claim_seen c.deref.result.now) d.path) (claims_before c.args.change.now) (map claim_seen c.deref-2.result.now) c.requires.claims.old_files
    (ap (map claim_seen) c.deref-2.ensures.value ∙ c.in_ok-left.ensures)

pub returns-clause-parts : goal.returns-clause-parts
returns-clause-parts g c =
    let left : map claim_seen c.deref-2.result.now ≡ left_over_claims_of c.args.change.now (map claim_seen c.in_ok-added.added.asides.items) =
    ap (map claim_seen) c.deref-2.ensures.value
    ∙ (c.in_ok-left.ensures ∙ ap (λ (xs : List Claim). filter (λ d. is_path_left_over (file_change_of c.args.change.now) (map claim_seen xs) d.path) (claims_before c.args.change.now)) c.deref.ensures.value) in
    record {
      fates = c.in_ok-added.ensures.files.answers;
      stays = c.in_ok-files.ensures.files.answers;
      fates_found = c.in_ok-added.ensures.files.found;
      stays_found = subst (λ (cs : List PathClaim). AreAnswersByFiles (is_file_kept (file_change_of c.args.change.now)) (g.T.Tree.history c.args.tree.now) cs c.in_ok-files.ensures.files.answers) left
          (subst (λ (h : List TreeState). AreAnswersByFiles (is_file_kept (file_change_of c.args.change.now)) h (map claim_seen c.deref-2.result.now) c.in_ok-files.ensures.files.answers) c.in_ok-added.ensures.tree.same c.in_ok-files.ensures.files.found);
      ins = c.in_ok-added.ensures.files.passing_first;
      asides = c.in_ok-added.ensures.files.passing_second;
      removed = c.in_ok-files.ensures.files.passing_first ∙ ap (λ (cs : List PathClaim). marked_claims (are_equal_flags false) cs c.in_ok-files.ensures.files.answers) left;
      kept = c.in_ok-files.ensures.files.passing_second ∙ ap (λ (cs : List PathClaim). marked_claims (are_equal_flags true) cs c.in_ok-files.ensures.files.answers) left;
    }
