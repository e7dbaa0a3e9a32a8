use Rattle.std.proofs.Common.{◌≡◌, ◌+◌, ◌-◌, ◌*◌, length, Ok}
use Rattle.base_core.specs.Tree.{TreeState}
use Rattle.base_core.specs.declared.tree.TreeFault.{TreeFault}
use Rattle.base_core.specs.declared.tree.TreeFault.TheVariants.{Disk as DiskFault}
use Rattle.package_reader.specs.pkg_core.Seen.{ReadsFile}
use Rattle.package_reader.specs.Readers.{files_to_read, name_in_tree, offset_of, package_len}
use Rattle.package_verifier.proofs.PiecesPassed.{IsPassedTo, steps_left}
use Rattle.package_verifier.proofs.files.read_files.Given as goal

abbrev pub invariant-pieces : goal.invariant-pieces
invariant-pieces g l = record {
  name : name_in_tree l.reader ≡ name_in_tree l.initial.reader;
  len : package_len l.reader ≡ package_len l.initial.reader;
  passed : IsPassedTo (g.T.Tree.history l.initial.tree) (name_in_tree l.initial.reader) (package_len l.initial.reader) l.initial.reader l.reader l.places.items;
  tree : ReadsFile {A = Unit {0}} {E = TreeFault} (name_in_tree l.initial.reader) (package_len l.initial.reader) DiskFault (g.T.Tree.history l.initial.tree) (g.T.Tree.history l.tree) (g.T.Tree.counts l.initial.tree) (g.T.Tree.counts l.tree) (Ok tt);
}

abbrev pub decreases-pieces : goal.decreases-pieces
decreases-pieces g l = steps_left l.reader
