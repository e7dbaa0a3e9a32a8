use Rattle.std.proofs.Common.{arith, rules, true, false}
use Rattle.base_core.specs.declared.tree.TreeFault.TheVariants.{Disk}
use Rattle.base_core.proofs.Counting.{readings_none}
use Rattle.path_claim_lists.specs.path_claims.Seen.{claim_seen}
use Rattle.path_claim_lists.proofs.path_claims.Places.{seen_at}
use Rattle.own_core.specs.Fates.{are_equal_flags}
use Rattle.own_core.specs.Going.{is_file_kept}
use Rattle.own_core.specs.Sides.{file_change_of}
use Rattle.own_core.proofs.Divided.{divided_all, divided_more, divided_start}
use Rattle.own_core.proofs.TreeLoops.{reads_on}
use Rattle.own_core.proofs.parts.left_over_files.Goals as goal

pub is_file_kept-requires : goal.is_file_kept-requires
is_file_kept-requires g c =
    c.requires c.loop-claim.claim-index _ (seen_at claim_seen c.args.left.now c.loop-claim.claim-index _ c.loop-claim-test.true)

pub loop-claim-init : goal.loop-claim-init
loop-claim-init g c = record {
  tree = readings_none Disk _ _ 0;
  files = divided_start (is_file_kept (file_change_of c.args.change.now)) (are_equal_flags false) (are_equal_flags true) _ c.args.left.now _ _ (search rules) (search rules);
}

pub loop-claim-preserved : goal.loop-claim-preserved
loop-claim-preserved g c = record {
  tree = reads_on Disk _ _ _ _ _ _ 0 c.in_ok-is_kept.is_kept c.loop-claim.invariant.tree c.in_ok-is_kept.ensures.tree;
  files = divided_more (is_file_kept (file_change_of c.args.change.now)) (are_equal_flags false) (are_equal_flags true) _ c.args.left.now _ c.loop-claim.claim-index _ c.in_ok-is_kept.is_kept _ _ _ _
      c.loop-claim.invariant.tree.same c.loop-claim-test.true c.loop-claim.invariant.files c.in_ok-is_kept.ensures.stays c.in_ok-add_left_over.ensures.removed c.in_ok-add_left_over.ensures.kept;
}

pub returns-clause-files : goal.returns-clause-files
returns-clause-files g c =
    divided_all (is_file_kept (file_change_of c.args.change.now)) (are_equal_flags false) (are_equal_flags true) _ c.args.left.now c.loop-claim.claim-index _ _ (omega (arith, c.loop-claim-test.false)) c.loop-claim.invariant.files
