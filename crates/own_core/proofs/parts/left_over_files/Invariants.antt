-- The claims so far, divided by whether their files are kept, each by the file under its path.
use Rattle.std.proofs.Common.{ℕ, true, false, map, take, Ok}
use Rattle.base_core.specs.Read.{OnlyReads}
use Rattle.base_core.specs.declared.tree.TreeFault.{TreeFault}
use Rattle.base_core.specs.declared.tree.TreeFault.TheVariants.{Disk}
use Rattle.path_claim_lists.specs.path_claims.Seen.{claim_seen}
use Rattle.own_core.specs.Divided.{AreDividedByAnswer}
use Rattle.own_core.specs.Fates.{are_equal_flags}
use Rattle.own_core.specs.Going.{is_file_kept}
use Rattle.own_core.specs.Sides.{file_change_of}
use Rattle.own_core.proofs.parts.left_over_files.Given as goal

abbrev pub invariant-loop-claim : goal.invariant-loop-claim
invariant-loop-claim g l = record {
  tree : OnlyReads {A = ℕ} {E = TreeFault} Disk (g.T.Tree.history l.initial.tree) (g.T.Tree.history l.tree) (g.T.Tree.counts l.initial.tree) (g.T.Tree.counts l.tree) (Ok 0);
  files : AreDividedByAnswer (is_file_kept (file_change_of l.change)) (are_equal_flags false) (are_equal_flags true) (g.T.Tree.history l.initial.tree) (map claim_seen (take l.claim-index l.left)) (map claim_seen l.files.removed.items) (map claim_seen l.files.kept.items);
}
