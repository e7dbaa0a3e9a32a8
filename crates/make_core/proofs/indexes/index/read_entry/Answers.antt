use Rattle.std.proofs.Common.{ℕ, None}
use Rattle.base_core.specs.Read.{bytes_in}
use Rattle.make_core.proofs.IndexReads.{by_made, found_told}
use Rattle.make_core.proofs.MadeRuns.{quiet_answer}
use Rattle.make_core.proofs.Reading.{agrees_if_tree_failed, if_observed, not_disk, read_failed, told_as_made}
use Rattle.make_core.proofs.indexes.index.read_entry.Goals as goal

pub returns-clause-made : goal.returns-clause-made
returns-clause-made g c = found_told _ _ _ c.args.place c.args.file.now (bytes_in c.in_ok-found.found) c.in_ok-found.ensures.answer c.entry_of.ensures.made

pub returns-clause-found : goal.returns-clause-found
returns-clause-found g c = (bytes_in c.in_ok-found.found, c.entry_of.ensures.bytes, by_made _ _ _ c.entry_of.ensures.made)

pub returns-in_err-found-clause-tree : goal.returns-in_err-found-clause-tree
returns-in_err-found-clause-tree g c = read_failed _ _ _ _ _ c.from_residual.result c.from_residual.ensures.1 c.in_err-found.ensures.tree

pub returns-clause-tree : goal.returns-clause-tree
returns-clause-tree g c = quiet_answer {B = ℕ} 0 _ _ _ _ c.entry_of.result (told_as_made {B = ℕ} _ _ _ _ _ 0 c.in_ok-found.ensures.tree) (not_disk _ _ c.entry_of.result c.entry_of.ensures.made)

pub returns-in_err-found-clause-made : goal.returns-in_err-found-clause-made
returns-in_err-found-clause-made g c = if_observed _ _ (λ v. agrees_if_tree_failed _ _ _ c.from_residual.result c.from_residual.ensures.1)

pub returns-in_err-found-clause-found : goal.returns-in_err-found-clause-found
returns-in_err-found-clause-found g c = (None, tt, agrees_if_tree_failed _ _ _ c.from_residual.result c.from_residual.ensures.1)
