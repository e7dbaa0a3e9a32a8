use Rattle.std.proofs.Common.{ℕ}
use Rattle.std.specs.Prelude.{Vec}
use Rattle.std.specs.declared.alloc.Global.{Global}
use Rattle.change_inputs.proofs.Explained.{explained_good, explained_indexes, explained_refusal, indexes_absent, indexes_bad}
use Rattle.change_inputs.specs.IndexFiles.{bytes_of_each}
use Rattle.change_inputs.specs.Seen.{indexes_seen, inputs_seen, root_seen}
use Rattle.base_core.proofs.Counting.{readings_none}
use Rattle.base_core.proofs.ReadAfter.{reading_as, reading_off}
use Rattle.change_inputs.proofs.Reading.{no_disk, reads_then_fault}
use Rattle.change_inputs.specs.declared.root.Refused.TheVariants.{Disk}
use Rattle.change_inputs.proofs.loaded.Loaded.of_files.Goals as goal

pub returns-in_err-root-clause-found : goal.returns-in_err-root-clause-found
returns-in_err-root-clause-found g c = explained_refusal inputs_seen root_seen _ c.args.command.now c.args.files c.from_residual.result _ c.requires c.from_residual.ensures.1 c.in_err-root.ensures

pub returns-in_err-found-clause-found : goal.returns-in_err-found-clause-found
returns-in_err-found-clause-found g c =
    let f = c.in_err-found.ensures.found in
    explained_indexes inputs_seen _ c.args.command.now c.args.files (root_seen c.in_ok-root.root) f.0 c.from_residual-in_err-found.result c.requires c.in_ok-root.ensures f.1
    (indexes_absent inputs_seen (λ (files : Vec (Vec ℕ Global) Global). bytes_of_each files.items) (root_seen c.in_ok-root.root) f.0 c.from_residual-in_err-found.result _ c.from_residual-in_err-found.ensures.1 f.2)

pub returns-in_err-indexes-clause-found : goal.returns-in_err-indexes-clause-found
returns-in_err-indexes-clause-found g c =
    let f = c.in_ok-found.ensures.found in
    explained_indexes inputs_seen _ c.args.command.now c.args.files (root_seen c.in_ok-root.root) f.0 c.from_residual-in_err-indexes.result c.requires c.in_ok-root.ensures f.1
    (indexes_bad inputs_seen indexes_seen (root_seen c.in_ok-root.root) f.0 _ c.from_residual-in_err-indexes.result _ c.from_residual-in_err-indexes.ensures.1 f.2 c.in_err-indexes.ensures.answer)

pub returns-clause-found : goal.returns-clause-found
returns-clause-found g c =
    let f = c.in_ok-found.ensures.found in
    explained_good _ c.args.command.now c.args.files (root_seen c.in_ok-root.root) f.0 _ (indexes_seen c.in_ok-indexes.indexes) c.requires c.in_ok-root.ensures f.1 f.2 c.in_ok-indexes.ensures.answer

pub returns-in_err-root-clause-tree : goal.returns-in_err-root-clause-tree
returns-in_err-root-clause-tree g c =
    reads_then_fault {A = ℕ} _ _ _ _ 0 c.in_err-root.field-0.0 c.from_residual.result (no_disk root_seen _ c.in_err-root.field-0.0 c.in_err-root.ensures) c.from_residual.ensures.1 (readings_none Disk _ _ 0)

pub returns-in_err-found-clause-tree : goal.returns-in_err-found-clause-tree
returns-in_err-found-clause-tree g c = reading_off _ _ _ _ _ _ c.from_residual-in_err-found.result c.from_residual-in_err-found.ensures.1 c.in_err-found.ensures.tree

pub returns-in_err-indexes-clause-tree : goal.returns-in_err-indexes-clause-tree
returns-in_err-indexes-clause-tree g c =
    reads_then_fault _ _ _ _ _ c.in_err-indexes.field-0.0 c.from_residual-in_err-indexes.result (no_disk indexes_seen _ c.in_err-indexes.field-0.0 c.in_err-indexes.ensures.answer) c.from_residual-in_err-indexes.ensures.1 c.in_ok-found.ensures.tree

pub returns-clause-tree : goal.returns-clause-tree
returns-clause-tree g c = reading_as _ _ _ _ _ _ _ c.in_ok-found.ensures.tree
