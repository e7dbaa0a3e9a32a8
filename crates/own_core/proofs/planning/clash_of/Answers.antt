use Rattle.std.proofs.Common.{◌∙◌, List, ap, sym, subst, map}
use Rattle.std.specs.Prelude.{◌&&◌, ◌||◌, not, is_some, bytes_eq}
use Rattle.std.specs.List.{find, list_any}
use Rattle.std.specs.List.Sorted.{IsSorted}
use Rattle.path_claim_lists.specs.adb_fields.JoinedPath.{joined_path}
use Rattle.own_core.specs.Fate.{apk_new_name}
use Rattle.base_core.specs.ByteOrder.{bytes_cmp}
use Rattle.base_core.specs.Sorted.{sorted_by}
use Rattle.path_claim_lists.specs.path_claims.Claims.{claim_cmp, is_claim_of_path}
use Rattle.path_claim_lists.specs.path_claims.Seen.{claim_seen}
use Rattle.path_claim_lists.specs.path_claims.declared.claim.Claim.{Claim}
use Rattle.own_core.specs.Parts.{apk_new_claims_of}
use Rattle.own_core.specs.Sides.{claims_after, claims_before}
use Rattle.own_core.specs.WritesSeen.{CanHaveApkNewNames}
use Rattle.own_core.proofs.ChangeClaims.{after_sorted, before_sorted}
use Rattle.own_core.proofs.NameChanges.{all_written}
use Rattle.own_core.proofs.PartsMeaning as Parts
use Rattle.own_core.proofs.PlanParts.{clash_is, clash_may, sorted_list, written_named}
use Rattle.own_core.proofs.planning.clash_of.Goals as goal

pub names_beside-requires : goal.names_beside-requires
names_beside-requires g c =
    subst (λ (xs : List Claim). CanHaveApkNewNames (map claim_seen xs)) (sym c.deref.ensures.value)
    (Parts.asides_named c.args.change.now _ (map claim_seen c.args.coming.now) c.args.parts.now c.requires.files c.requires.parts)

pub invariant_of-let_go : goal.invariant_of-let_go
invariant_of-let_go g c = record {
  before_sorted = before_sorted c.args.change.now c.requires.claims;
  after_sorted = after_sorted c.args.change.now c.requires.claims;
  kept_sorted = subst (λ (xs : List Claim). IsSorted claim_cmp (map claim_seen xs)) (sym c.deref-2.ensures.value)
      (Parts.kept_sorted c.args.change.now _ (map claim_seen c.args.coming.now) c.args.parts.now c.requires.claims c.requires.parts);
}

pub first_clash-requires-clause-sorted : goal.first_clash-requires-clause-sorted
first_clash-requires-clause-sorted g c =
    sorted_list (map joined_path c.deref-3.result.now) (all_written c.args.change.now c.in_ok-besides.besides) (ap (map joined_path) c.deref-3.ensures.value ∙ c.in_ok-written.ensures)

pub first_clash-requires-clause-names : goal.first_clash-requires-clause-names
first_clash-requires-clause-names g c =
    written_named c.args.change.now c.requires.claims (apk_new_claims_of c.args.parts.now) (Parts.asides_named c.args.change.now _ (map claim_seen c.args.coming.now) c.args.parts.now c.requires.files c.requires.parts)
    (map joined_path c.deref-3.result.now)
    (ap (map joined_path) c.deref-3.ensures.value ∙ (c.in_ok-written.ensures
    ∙ ap (λ besides. sorted_by bytes_cmp (all_written c.args.change.now besides)) (c.in_ok-besides.ensures ∙ ap (λ (xs : List Claim). map (λ d. apk_new_name d.path) (map claim_seen xs)) c.deref.ensures.value)))

pub returns-clause-clash : goal.returns-clause-clash
returns-clause-clash g c =
    clash_is c.args.change.now c.requires.claims (map claim_seen c.args.coming.now) c.requires.firsts c.args.parts.now _ c.requires.parts
    (λ name. list_any (bytes_eq name) (map joined_path c.deref-3.result.now))
    (λ name. is_some (find (is_claim_of_path name) (claims_before c.args.change.now))
    && not (is_some (find (is_claim_of_path name) (claims_after c.args.change.now)) || is_some (find (is_claim_of_path name) (map claim_seen c.deref-2.result.now))))
    (λ name. ap (list_any (bytes_eq name)) (ap (map joined_path) c.deref-3.ensures.value ∙ (c.in_ok-written.ensures
    ∙ ap (λ besides. sorted_by bytes_cmp (all_written c.args.change.now besides)) (c.in_ok-besides.ensures ∙ ap (λ (xs : List Claim). map (λ d. apk_new_name d.path) (map claim_seen xs)) c.deref.ensures.value))))
    (λ name. ap (λ (xs : List Claim). is_some (find (is_claim_of_path name) (claims_before c.args.change.now))
    && not (is_some (find (is_claim_of_path name) (claims_after c.args.change.now)) || is_some (find (is_claim_of_path name) (map claim_seen xs)))) c.deref-2.ensures.value)
    c.first_clash.result c.first_clash.ensures.first

pub returns-clause-may : goal.returns-clause-may
returns-clause-may g c =
    clash_may c.args.change.now c.args.parts.now
    (λ name. list_any (bytes_eq name) (map joined_path c.deref-3.result.now))
    (λ name. is_some (find (is_claim_of_path name) (claims_before c.args.change.now))
    && not (is_some (find (is_claim_of_path name) (claims_after c.args.change.now)) || is_some (find (is_claim_of_path name) (map claim_seen c.deref-2.result.now))))
    (λ name. ap (list_any (bytes_eq name)) (ap (map joined_path) c.deref-3.ensures.value ∙ (c.in_ok-written.ensures
    ∙ ap (λ besides. sorted_by bytes_cmp (all_written c.args.change.now besides)) (c.in_ok-besides.ensures ∙ ap (λ (xs : List Claim). map (λ d. apk_new_name d.path) (map claim_seen xs)) c.deref.ensures.value))))
    (λ name. ap (λ (xs : List Claim). is_some (find (is_claim_of_path name) (claims_before c.args.change.now))
    && not (is_some (find (is_claim_of_path name) (claims_after c.args.change.now)) || is_some (find (is_claim_of_path name) (map claim_seen xs)))) c.deref-2.ensures.value)
    c.first_clash.result c.first_clash.ensures.may
