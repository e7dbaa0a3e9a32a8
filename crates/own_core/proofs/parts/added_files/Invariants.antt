-- The claims so far, divided by their fates, each by the file under its path.
use Rattle.std.proofs.Common.{ℕ, map, take, Ok}
use Rattle.base_core.specs.Read.{OnlyReads}
use Rattle.base_core.specs.declared.tree.TreeFault.{TreeFault}
use Rattle.base_core.specs.declared.tree.TreeFault.TheVariants.{Disk}
use Rattle.own_core.specs.Fate.{goes_aside, goes_in}
use Rattle.path_claim_lists.specs.path_claims.Seen.{claim_seen}
use Rattle.own_core.specs.Divided.{AreDividedByAnswer}
use Rattle.own_core.specs.Fates.{are_equal_fates, claim_fate}
use Rattle.own_core.specs.Sides.{file_change_of}
use Rattle.own_core.proofs.parts.added_files.Given as goal

abbrev pub invariant-loop-claim : goal.invariant-loop-claim
invariant-loop-claim g l = record {
  tree : OnlyReads {A = ℕ} {E = TreeFault} Disk (g.T.Tree.history l.initial.tree) (g.T.Tree.history l.tree) (g.T.Tree.counts l.initial.tree) (g.T.Tree.counts l.tree) (Ok 0);
  files : AreDividedByAnswer (claim_fate (file_change_of l.change)) (are_equal_fates goes_in) (are_equal_fates goes_aside) (g.T.Tree.history l.initial.tree) (map claim_seen (take l.claim-index l.coming)) (map claim_seen l.files.ins.items) (map claim_seen l.files.asides.items);
}
