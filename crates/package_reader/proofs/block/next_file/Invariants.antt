use Rattle.std.proofs.Common.{◌≡◌, ◌≤◌, ◌-◌, Ok}
use Rattle.pkg_core.specs.Seen.{ReadsFile}
use Rattle.package_reader.specs.declared.piece.PieceFault.{PieceFault}
use Rattle.package_reader.specs.declared.piece.PieceFault.TheVariants.{Disk as DiskFault}
use Rattle.package_reader.proofs.FilesFound.{IsPassedTo}
use Rattle.package_reader.proofs.block.next_file.Given as goal

abbrev pub invariant-more : goal.invariant-more
invariant-more g l = record {
  within : l.place.at ≤ l.place.len;
  len : l.place.len ≡ l.initial.place.len;
  walk : l.place.walk ≡ l.initial.place.walk;
  passed : IsPassedTo (g.T.Tree.history l.initial.tree) l.name l.initial.place.len l.initial.place l.place;
  tree : ReadsFile {A = Unit {0}} {E = PieceFault} l.name l.initial.place.len DiskFault (g.T.Tree.history l.initial.tree) (g.T.Tree.history l.tree) (g.T.Tree.counts l.initial.tree) (g.T.Tree.counts l.tree) (Ok tt);
}

abbrev pub decreases-more : goal.decreases-more
decreases-more g l = l.place.len - l.place.at
