use Rattle.std.proofs.Common.{[]}
use Rattle.journal_core.proofs.Filed.{first_moments, first_reads}
use Rattle.journal_core.proofs.Maps.{names_maps}
use Rattle.journal_core.proofs.stage.Stage.sync_before_first.Goals as goal

pub returns-then-self-eq0-clause-moments : goal.returns-then-self-eq0-clause-moments
returns-then-self-eq0-clause-moments g c = first_moments c.args.self.now (g.T.Tree.history c.args.tree.now) _ c.sync_all_names.result c.sync_all_names.ensures.moves

pub returns-then-self-eq0-clause-reads : goal.returns-then-self-eq0-clause-reads
returns-then-self-eq0-clause-reads g c = first_reads c.args.self.now (g.T.Tree.history c.args.tree.now) _ c.sync_all_names.result c.sync_all_names.ensures.moves

pub returns-then-self-eq0-clause-maps : goal.returns-then-self-eq0-clause-maps
returns-then-self-eq0-clause-maps g c = names_maps _ _ c.sync_all_names.result [] c.sync_all_names.ensures.moves
