use Rattle.std.proofs.Common.{ap, ◌∙◌, arith, map}
use Rattle.path_claim_lists.specs.adb_fields.JoinedPath.{joined_path}
use Rattle.file_owners.specs.db_core.Seen.{members_of}
use Rattle.path_claim_lists.specs.path_claims.Seen.{claim_seen}
use Rattle.path_claim_lists.proofs.path_claims.Places.{seen_at}
use Rattle.own_core.specs.ClaimEntries.{is_added_at}
use Rattle.own_core.proofs.Written.{path_left, path_more, paths_whole}
use Rattle.own_core.proofs.clashes.add_coming.Goals as goal
use Rattle.own_core.proofs.clashes.add_coming.Goals.{then-comes+in_ok-push, else-comes}

pub comes-requires : goal.comes-requires
comes-requires c = c.requires c.loop-claim.claim-index _ (seen_at claim_seen c.args.claims.now c.loop-claim.claim-index _ c.loop-claim-test.true)

pub loop-claim-preserved : goal.loop-claim-preserved
loop-claim-preserved c = elim c.if-comes.branch [
  | then-comes+in_ok-push w ↦
      path_more (λ d. is_added_at (members_of c.args.members.now) d.member) c.args.claims.now c.loop-claim.claim-index _ c.comes.result (map joined_path c.args.paths.now.items) c.loop-claim.paths.items c.if-comes.paths.items
      c.loop-claim-test.true c.comes.ensures w.if-comes.true (ap (λ v. v.items) w.paths-is ∙ w.in_ok-push.ensures.items) c.loop-claim.invariant
  | else-comes w ↦
      path_left (λ d. is_added_at (members_of c.args.members.now) d.member) c.args.claims.now c.loop-claim.claim-index _ c.comes.result (map joined_path c.args.paths.now.items) c.loop-claim.paths.items c.if-comes.paths.items
      c.loop-claim-test.true c.comes.ensures w.if-comes.false (ap (λ v. v.items) w.paths-is) c.loop-claim.invariant
]

pub returns : goal.returns
returns c =
    paths_whole (λ d. is_added_at (members_of c.args.members.now) d.member) c.args.claims.now c.loop-claim.claim-index (map joined_path c.args.paths.now.items) (map joined_path c.loop-claim.paths.items)
    (omega (arith, c.loop-claim-test.false)) c.loop-claim.invariant
