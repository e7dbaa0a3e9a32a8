use Rattle.std.proofs.Common.{◌≡◌, true}
use Rattle.base_core.specs.Faults.{CountsOnlyRise, CountsNoNewFaultOrLackOfMemory}
use Rattle.package_verifier.specs.package_reader.FileReading.{bytes_left_of, expected_file_of}
use Rattle.journal_staging.proofs.OneFile.{HasComeOn, IsBegunOn, IsListedOn, IsProperOn, IsReadOn}
use Rattle.journal_staging.proofs.file.stage_file.Given as goal

abbrev pub invariant-pieces : goal.invariant-pieces
invariant-pieces g l = record {
  view : l.stage ≡ record l.fn.stage { is_open = true };
  begun : IsBegunOn l.fn.stage l.stage (g.T.Tree.history l.fn.tree) (g.T.Tree.history l.tree);
  read : IsReadOn l.fn.stage l.stage l.fn.file l.file (g.T.Tree.history l.fn.tree) (g.T.Tree.history l.tree);
  listed : IsListedOn l.fn.stage l.stage l.fn.file l.file (g.T.Tree.history l.fn.tree) (g.T.Tree.history l.tree);
  come : HasComeOn l.fn.file l.file;
  due : expected_file_of l.file ≡ expected_file_of l.fn.file;
  goes_on : CountsOnlyRise (g.T.Tree.counts l.fn.tree) (g.T.Tree.counts l.tree);
  kept : CountsNoNewFaultOrLackOfMemory (g.T.Tree.counts l.fn.tree) (g.T.Tree.counts l.tree);
  proper : IsProperOn l.fn.stage l.fn.file (g.T.Tree.history l.fn.tree) (g.T.Tree.counts l.fn.tree).misuses (g.T.Tree.counts l.tree).misuses;
}

abbrev pub decreases-pieces : goal.decreases-pieces
decreases-pieces g l = bytes_left_of l.file
