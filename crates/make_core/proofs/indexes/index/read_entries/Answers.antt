use Rattle.std.proofs.Common.{◌≤◌, ◌∙◌, ℕ, ap, length, map, Ok, Err, List, arith}
use Rattle.std.proofs.lemmas.Result.{err_from_is_err_and}
use Rattle.base_core.proofs.Counting.{readings_none}
use Rattle.base_core.proofs.ReadAfter.{both_readings, reading_as, second_reading_failed}
use Rattle.make_info.specs.declared.fault.MakeFault.TheVariants.{Disk}
use Rattle.make_core.specs.Views.{entries_view, entry_view}
use Rattle.make_core.specs.declared.indexes.entry.Entry.{Entry}
use Rattle.make_core.proofs.IndexReads.{named_as, operand_name, read_all_is, read_err, read_more, read_start, read_stopped, told_all, told_err, told_more, told_start, told_stopped}
use Rattle.make_core.proofs.Reading.{out_of_memory}
use Rattle.make_core.proofs.indexes.index.read_entries.Goals as goal

pub loop-i-init : goal.loop-i-init
loop-i-init g c = record {
  told = told_start _ c.args.operands.now _ (ap (λ (es : List Entry). map entry_view es) c.new-entries.ensures.items);
  found = read_start c.args.operands.now _ (ap (λ (es : List Entry). map entry_view es) c.new-entries.ensures.items);
  tree = readings_none Disk _ _ 0;
}

pub returns-in_err-entry-clause-made : goal.returns-in_err-entry-clause-made
returns-in_err-entry-clause-made g c =
    let p = err_from_is_err_and c.from_residual.result c.from_residual.ensures.1 in
    told_err entries_view entry_view _ _ c.args.operands.now c.loop-i.i c.get.result.now _ c.in_err-entry.field-0.0 c.from_residual.result c.get.ensures c.loop-i.invariant.tree.same c.loop-i.invariant.told (named_as entry_view _ (Err c.in_err-entry.field-0.0) _ _ _ (operand_name c.args.operands.now c.loop-i.i c.get.result.now _ c.get.ensures c.file.ensures) c.in_err-entry.ensures.made) (p.1 ∙ ap Err p.2)

pub returns-in_err-entry-clause-found : goal.returns-in_err-entry-clause-found
returns-in_err-entry-clause-found g c =
    let p = err_from_is_err_and c.from_residual.result c.from_residual.ensures.1 in
    read_err entries_view entry_view c.args.operands.now c.loop-i.i c.get.result.now _ c.in_err-entry.field-0.0 c.from_residual.result c.get.ensures c.loop-i.invariant.found c.in_err-entry.ensures.found (p.1 ∙ ap Err p.2)

pub returns-in_err-add_entry-clause-found : goal.returns-in_err-add_entry-clause-found
returns-in_err-add_entry-clause-found g c = read_stopped entries_view c.args.operands.now c.from_residual-in_err-add_entry.result c.from_residual-in_err-add_entry.ensures.1

pub loop-i-preserved : goal.loop-i-preserved
loop-i-preserved g c = record {
  told = told_more _ _ c.args.operands.now c.loop-i.i c.get.result.now _ _ (entry_view c.in_ok-entry.entry) c.get.ensures c.loop-i.invariant.tree.same c.loop-i.invariant.told (named_as entry_view _ (Ok c.in_ok-entry.entry) _ _ _ (operand_name c.args.operands.now c.loop-i.i c.get.result.now _ c.get.ensures c.file.ensures) c.in_ok-entry.ensures.made) c.in_ok-add_entry.ensures;
  found = read_more c.args.operands.now c.loop-i.i c.get.result.now _ _ (entry_view c.in_ok-entry.entry) c.get.ensures c.loop-i.invariant.found c.in_ok-entry.ensures.found.0 c.in_ok-entry.ensures.found.1 c.in_ok-entry.ensures.found.2 c.in_ok-add_entry.ensures;
  tree = both_readings {C = ℕ} _ _ _ _ _ _ _ _ _ 0 c.loop-i.invariant.tree c.in_ok-entry.ensures.tree;
}

pub returns-clause-found : goal.returns-clause-found
returns-clause-found g c =
    let past : length c.args.operands.now ≤ c.loop-i.i = omega arith in
    read_all_is c.args.operands.now c.loop-i.i _ past c.loop-i.invariant.found

pub returns-in_err-entry-clause-tree : goal.returns-in_err-entry-clause-tree
returns-in_err-entry-clause-tree g c = second_reading_failed _ _ _ _ _ _ _ _ _ c.from_residual.result c.from_residual.ensures.1 c.loop-i.invariant.tree c.in_err-entry.ensures.tree

pub returns-in_err-add_entry-clause-made : goal.returns-in_err-add_entry-clause-made
returns-in_err-add_entry-clause-made g c = told_stopped entries_view _ c.args.operands.now c.from_residual-in_err-add_entry.result c.from_residual-in_err-add_entry.ensures.1

pub returns-in_err-add_entry-clause-tree : goal.returns-in_err-add_entry-clause-tree
returns-in_err-add_entry-clause-tree g c =
    out_of_memory _ _ _ _ 0 c.from_residual-in_err-add_entry.result c.from_residual-in_err-add_entry.ensures.1 (both_readings {C = ℕ} _ _ _ _ _ _ _ _ _ 0 c.loop-i.invariant.tree c.in_ok-entry.ensures.tree)

pub returns-clause-made : goal.returns-clause-made
returns-clause-made g c =
    let past : length c.args.operands.now ≤ c.loop-i.i = omega arith in
    told_all _ c.args.operands.now c.loop-i.i _ past c.loop-i.invariant.told

pub returns-clause-tree : goal.returns-clause-tree
returns-clause-tree g c = reading_as _ _ _ _ _ _ _ c.loop-i.invariant.tree
