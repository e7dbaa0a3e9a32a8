use Rattle.std.proofs.Common.{◌≡◌, ℕ, List, length, map, take, Ok}
use Rattle.package_files.specs.Packed.{ArePackedFiles}
use Rattle.base_core.specs.Read.{OnlyReads}
use Rattle.make_info.specs.declared.fault.MakeFault.{MakeFault}
use Rattle.make_info.specs.declared.fault.MakeFault.TheVariants.{Disk}
use Rattle.package_files.specs.Sources.{source_file_at_place_by_read}
use Rattle.package_files.proofs.ReadLemmas.{IsSoFar}
use Rattle.package_files.proofs.packing.pack_files.Given as goal

abbrev pub invariant-loop-i : goal.invariant-loop-i
invariant-loop-i g l = record {
  tree : OnlyReads {A = ℕ} {E = MakeFault} Disk (g.T.Tree.history l.initial.tree) (g.T.Tree.history l.tree) (g.T.Tree.counts l.initial.tree) (g.T.Tree.counts l.tree) (Ok 0);
  count : length l.files.items ≡ l.i;
  so_far : IsSoFar (g.T.Tree.history l.initial.tree) (λ (name : List ℕ). 1) (source_file_at_place_by_read l.place) (take l.i (map (λ name. name.now) l.names))
      (ArePackedFiles l.folder l.initial.blocks.items l.blocks.items l.files);
}
