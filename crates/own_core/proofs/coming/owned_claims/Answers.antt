use Rattle.std.proofs.Common.{◌≡◌, ◌<◌, ◌∙◌, ℕ, ap, arith, length, map, subst, sym}
use Rattle.std.proofs.lemmas.List.{length-map}
use Rattle.file_owners.specs.db_core.Seen.{members_of}
use Rattle.file_owners.specs.Owners.{owner_of_path}
use Rattle.path_claim_lists.specs.path_claims.Seen.{claim_seen}
use Rattle.path_claim_lists.proofs.path_claims.Places.{seen_at}
use Rattle.own_core.specs.ClaimEntries.{is_of_added_owner}
use Rattle.own_core.proofs.Kept.{beside_at, kept_one, kept_whole, left_one}
use Rattle.own_core.proofs.coming.owned_claims.Goals as goal
use Rattle.own_core.proofs.coming.owned_claims.Goals.{then-is_of_added_owner+in_ok-push, else-is_of_added_owner}

pub is_of_added_owner-requires-clause-file : goal.is_of_added_owner-requires-clause-file
is_of_added_owner-requires-clause-file c =
    c.requires.files c.loop-i.i _ (seen_at claim_seen c.args.claims.now c.loop-i.i _ c.loop-i-test.true)

pub is_of_added_owner-requires-clause-owner : goal.is_of_added_owner-requires-clause-owner
is_of_added_owner-requires-clause-owner c =
    beside_at (λ d. owner_of_path (members_of c.args.members.now) d.path) c.args.claims.now c.args.owners.now c.loop-i.i _ _ c.requires.owners c.loop-i-test.true

pub loop-i-preserved : goal.loop-i-preserved
loop-i-preserved c = elim c.if-is_of_added_owner.branch [
  | then-is_of_added_owner+in_ok-push w ↦
      kept_one (is_of_added_owner (members_of c.args.members.now)) c.args.claims.now c.loop-i.owned.items c.if-is_of_added_owner.owned.items c.loop-i.i _ c.is_of_added_owner.result c.loop-i-test.true
      c.is_of_added_owner.ensures w.if-is_of_added_owner.true (ap (λ v. v.items) w.owned-is ∙ w.in_ok-push.ensures.items) c.loop-i.invariant
  | else-is_of_added_owner w ↦
      left_one (is_of_added_owner (members_of c.args.members.now)) c.args.claims.now c.loop-i.owned.items c.if-is_of_added_owner.owned.items c.loop-i.i _ c.is_of_added_owner.result c.loop-i-test.true
      c.is_of_added_owner.ensures w.if-is_of_added_owner.false (ap (λ v. v.items) w.owned-is) c.loop-i.invariant
]

pub returns : goal.returns
returns c = kept_whole (is_of_added_owner (members_of c.args.members.now)) c.args.claims.now c.loop-i.owned.items c.loop-i.i (omega (arith, c.loop-i-test.false)) c.loop-i.invariant

pub bounds-owners-i : goal.bounds-owners-i
bounds-owners-i c =
    let same : length c.args.owners.now ≡ length c.args.claims.now =
    ap length c.requires.owners ∙ (length-map (map claim_seen c.args.claims.now) (λ d. owner_of_path (members_of c.args.members.now) d.path) ∙ length-map c.args.claims.now claim_seen) in
    subst (λ (n : ℕ). c.loop-i.i < n) (sym same) c.loop-i-test.true
