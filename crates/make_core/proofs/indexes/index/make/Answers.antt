use Rattle.std.proofs.Common.{◌∙◌, ap, Err}
use Rattle.std.proofs.lemmas.Result.{err_from_is_err_and}
use Rattle.base_core.proofs.ReadAfter.{reading_off}
use Rattle.make_core.specs.Index.{first_description_or_empty}
use Rattle.make_core.specs.Views.{entries_view}
use Rattle.make_core.proofs.IndexWhole.{files_by, found_made, found_refused, told_made, told_refused}
use Rattle.make_core.proofs.MadeRuns.{quiet_answer}
use Rattle.make_core.proofs.Reading.{not_disk}
use Rattle.make_core.proofs.indexes.index.make.Goals as goal

pub read_entries-requires : goal.read_entries-requires
read_entries-requires g c = files_by c.file_operands_are_files.ensures c.args.command.now _ c.operands.ensures.command c.requires c.operands.ensures.value

pub returns-in_err-entries-clause-made : goal.returns-in_err-entries-clause-made
returns-in_err-entries-clause-made g c =
    let p = err_from_is_err_and c.from_residual.result c.from_residual.ensures.1 in
    told_refused c.args.command.now _ c.operands.ensures.value entries_view (λ file. file.items) _ c.in_err-entries.field-0.0 c.from_residual.result c.in_err-entries.ensures.made (p.1 ∙ ap Err p.2)

pub returns-in_err-entries-clause-found : goal.returns-in_err-entries-clause-found
returns-in_err-entries-clause-found g c =
    let p = err_from_is_err_and c.from_residual.result c.from_residual.ensures.1 in
    found_refused c.args.command.now _ c.operands.ensures.value entries_view (λ file. file.items) c.in_err-entries.field-0.0 c.from_residual.result c.in_err-entries.ensures.found (p.1 ∙ ap Err p.2)

pub returns-clause-made : goal.returns-clause-made
returns-clause-made g c =
    told_made c.args.command.now c.description.result.now _ (c.description.ensures ∙ ap first_description_or_empty c.values.ensures.value) c.operands.ensures.value (λ file. file.items) _ (entries_view c.in_ok-entries.entries) c.index_file.result c.in_ok-entries.ensures.made c.index_file.ensures

pub returns-clause-found : goal.returns-clause-found
returns-clause-found g c =
    found_made c.args.command.now c.description.result.now _ (c.description.ensures ∙ ap first_description_or_empty c.values.ensures.value) c.operands.ensures.value (λ file. file.items) (entries_view c.in_ok-entries.entries) c.index_file.result c.in_ok-entries.ensures.found c.index_file.ensures

pub returns-in_err-entries-clause-tree : goal.returns-in_err-entries-clause-tree
returns-in_err-entries-clause-tree g c = reading_off _ _ _ _ _ _ c.from_residual.result c.from_residual.ensures.1 c.in_err-entries.ensures.tree

pub returns-clause-tree : goal.returns-clause-tree
returns-clause-tree g c = quiet_answer c.in_ok-entries.entries _ _ _ _ c.index_file.result c.in_ok-entries.ensures.tree (not_disk _ _ c.index_file.result c.index_file.ensures)
