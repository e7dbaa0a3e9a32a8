use Rattle.std.proofs.Common.{◌≡◌, length, take, ℕ, Ok}
use Rattle.package_files.specs.BorrowedNames.{listings_of}
use Rattle.package_files.specs.Packed.{ArePackedFolders}
use Rattle.base_core.specs.Read.{OnlyReads}
use Rattle.make_info.specs.declared.fault.MakeFault.{MakeFault}
use Rattle.make_info.specs.declared.fault.MakeFault.TheVariants.{Disk}
use Rattle.package_files.specs.Sources.{source_folder_at_place_by_read}
use Rattle.package_files.proofs.ReadLemmas.{IsSoFar}
use Rattle.package_files.proofs.PackLemmas.{reads_in}
use Rattle.package_files.proofs.packing.pack_folders.Given as goal

abbrev pub invariant-loop-i : goal.invariant-loop-i
invariant-loop-i g l = record {
  tree : OnlyReads {A = ℕ} {E = MakeFault} Disk (g.T.Tree.history l.initial.tree) (g.T.Tree.history l.tree) (g.T.Tree.counts l.initial.tree) (g.T.Tree.counts l.tree) (Ok 0);
  count : length l.packed.items ≡ l.i;
  so_far : IsSoFar (g.T.Tree.history l.initial.tree) reads_in (source_folder_at_place_by_read l.place) (take l.i (listings_of l.folders l.files)) (ArePackedFolders l.blocks.items l.packed);
}
