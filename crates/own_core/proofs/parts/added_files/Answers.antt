use Rattle.std.proofs.Common.{arith, rules}
use Rattle.base_core.specs.declared.tree.TreeFault.TheVariants.{Disk}
use Rattle.base_core.proofs.Counting.{readings_none}
use Rattle.own_core.specs.Fate.{goes_aside, goes_in}
use Rattle.path_claim_lists.specs.path_claims.Seen.{claim_seen}
use Rattle.path_claim_lists.proofs.path_claims.Places.{seen_at}
use Rattle.own_core.specs.Fates.{are_equal_fates, claim_fate, fate_seen}
use Rattle.own_core.specs.Sides.{file_change_of}
use Rattle.own_core.proofs.Divided.{divided_all, divided_more, divided_start}
use Rattle.own_core.proofs.TreeLoops.{reads_on}
use Rattle.own_core.proofs.parts.added_files.Goals as goal

pub fate_of-requires-clause-file : goal.fate_of-requires-clause-file
fate_of-requires-clause-file g c =
    c.requires.files c.loop-claim.claim-index _ (seen_at claim_seen c.args.coming.now c.loop-claim.claim-index _ c.loop-claim-test.true)

pub loop-claim-init : goal.loop-claim-init
loop-claim-init g c = record {
  tree = readings_none Disk _ _ 0;
  files = divided_start (claim_fate (file_change_of c.args.change.now)) (are_equal_fates goes_in) (are_equal_fates goes_aside) _ c.args.coming.now _ _ (search rules) (search rules);
}

pub loop-claim-preserved : goal.loop-claim-preserved
loop-claim-preserved g c = record {
  tree = reads_on Disk _ _ _ _ _ _ 0 c.in_ok-fate.fate c.loop-claim.invariant.tree c.in_ok-fate.ensures.tree;
  files = divided_more (claim_fate (file_change_of c.args.change.now)) (are_equal_fates goes_in) (are_equal_fates goes_aside) _ c.args.coming.now _ c.loop-claim.claim-index _ (fate_seen c.in_ok-fate.fate) _ _ _ _
      c.loop-claim.invariant.tree.same c.loop-claim-test.true c.loop-claim.invariant.files c.in_ok-fate.ensures.fate c.in_ok-add_by_fate.ensures.ins c.in_ok-add_by_fate.ensures.asides;
}

pub returns-clause-files : goal.returns-clause-files
returns-clause-files g c =
    divided_all (claim_fate (file_change_of c.args.change.now)) (are_equal_fates goes_in) (are_equal_fates goes_aside) _ c.args.coming.now c.loop-claim.claim-index _ _ (omega (arith, c.loop-claim-test.false)) c.loop-claim.invariant.files
