use Rattle.std.proofs.Common.{ap, ◌∙◌, map, Err}
use Rattle.std.proofs.lemmas.Result.{err_from_is_err_and}
use Rattle.make_core.specs.Views.{entry_view}
use Rattle.make_core.proofs.IndexMade.{made_err, made_ok}
use Rattle.make_core.proofs.indexes.index.index_file.Goals as goal

pub returns-in_err-payload : goal.returns-in_err-payload
returns-in_err-payload c =
    let p = err_from_is_err_and c.from_residual-in_err-payload.result c.from_residual-in_err-payload.ensures.1 in
    made_err _ c.args.description.now _ (map entry_view c.args.entries.items) c.in_err-payload.field-0.0 c.from_residual-in_err-payload.result (ap (map entry_view) c.deref.ensures.value ∙ c.in_ok-sort_entries.ensures) c.in_err-payload.ensures.err (p.1 ∙ ap Err p.2)

pub returns : goal.returns
returns c = made_ok c.args.description.now _ (map entry_view c.args.entries.items) _ _ _ (ap (map entry_view) c.deref.ensures.value ∙ c.in_ok-sort_entries.ensures) c.in_ok-payload.ensures.made c.deref-2.ensures.value c.in_ok-file_of.ensures
