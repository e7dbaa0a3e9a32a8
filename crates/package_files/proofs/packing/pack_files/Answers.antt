use Rattle.std.proofs.Common.{◌∙◌, ◌+◌, ◌<◌, ◌≤◌, ap, sym, length, arith, rules}
use Rattle.package_files.specs.Packed.{IsPackedFile, ArePackedFiles}
use Rattle.package_files.specs.Sources.{source_file_at_place_by_read, source_files_at_place_from_read}
use Rattle.package_files.proofs.ReadLemmas.{so_far_none, explained, explained_as, same_fault, memory_fault, told_as}
use Rattle.package_files.proofs.PackLemmas.{file_own, packed_none, packed_more, count_more, files_go_on, files_stop, names_whole}
use Rattle.package_files.proofs.packing.pack_files.Goals as goal

pub loop-i-init : goal.loop-i-init
loop-i-init g c = record {
  tree = search rules;
  count = ap length c.new-files.ensures.items;
  so_far = so_far_none _ (λ name. 1) (source_file_at_place_by_read c.args.place) (file_own c.args.place) (ArePackedFiles c.args.folder c.args.blocks.now.items c.args.blocks.now.items c.new-files.result) (packed_none _ _ _ c.new-files.ensures.items);
}

pub returns-in_err-file-clause-read : goal.returns-in_err-file-clause-read
returns-in_err-file-clause-read g c = λ n.
    let lt : c.loop-i.i < length c.args.names.now = omega arith in
    explained_as _ _ _
    (files_stop _ c.args.place c.args.names.now c.loop-i.i c.index-names-i.result
    (ArePackedFiles c.args.folder c.args.blocks.now.items c.loop-i.blocks.items c.loop-i.files)
    (IsPackedFile c.args.folder (c.loop-i.i + 1) c.loop-i.blocks.items c.pack_file.new.blocks.items)
    (ArePackedFiles c.args.folder c.args.blocks.now.items c.pack_file.new.blocks.items) c.in_err-file.field-0.0
    lt c.index-names-i.is c.loop-i.invariant.so_far (told_as _ _ _ c.loop-i.invariant.tree.same c.in_err-file.ensures.read) n)
    (λ read e. same_fault _ _ c.from_residual.result _ c.from_residual.ensures.1 e)

pub returns-in_err-push_file-clause-read : goal.returns-in_err-push_file-clause-read
returns-in_err-push_file-clause-read g c = λ n. explained _ _ (λ read. memory_fault _ _ _ c.from_residual-in_err-push_file.ensures.1)

pub loop-i-preserved : goal.loop-i-preserved
loop-i-preserved g c =
    let lt : c.loop-i.i < length c.args.names.now = omega arith in
    record {
      tree = search rules;
      count = count_more _ _ _ _ c.in_ok-push_file.ensures c.loop-i.invariant.count;
      so_far = files_go_on _ c.args.place c.args.names.now c.loop-i.i c.index-names-i.result
          (ArePackedFiles c.args.folder c.args.blocks.now.items c.loop-i.blocks.items c.loop-i.files)
          (ArePackedFiles c.args.folder c.args.blocks.now.items c.pack_file.new.blocks.items c.push_file.new.files)
          (IsPackedFile c.args.folder (c.loop-i.i + 1) c.loop-i.blocks.items c.pack_file.new.blocks.items) c.in_ok-file.file
          lt c.index-names-i.is c.loop-i.invariant.so_far (told_as _ _ _ c.loop-i.invariant.tree.same c.in_ok-file.ensures.read)
          (λ ys y. packed_more c.args.folder c.loop-i.i c.args.blocks.now.items c.loop-i.blocks.items c.pack_file.new.blocks.items c.loop-i.files c.push_file.new.files c.in_ok-file.file ys y
          c.loop-i.invariant.count c.in_ok-push_file.ensures);
    }

pub returns-clause-read : goal.returns-clause-read
returns-clause-read g c = λ n.
    let le : length c.args.names.now ≤ c.loop-i.i = omega arith in
    explained_as _ _ _ (c.loop-i.invariant.so_far n)
    (λ read e. (e.0, ap (source_files_at_place_from_read c.args.place read n) (sym (names_whole c.args.names.now c.loop-i.i le)) ∙ e.1, e.2))
