use Rattle.std.proofs.Common.{[]}
use Rattle.journal_core.proofs.Filed.{append_moments, append_staged_called, append_proper}
use Rattle.journal_core.proofs.Keeping.{append_keeps}
use Rattle.journal_core.proofs.Maps.{append_maps}
use Rattle.journal_core.proofs.Images.{crash_laws}
use Rattle.journal_core.proofs.stage.Stage.file_append.Goals as goal

pub returns-clause-moments : goal.returns-clause-moments
returns-clause-moments g c =
    append_moments crash_laws _ _ _ _ c.open_name.ensures _ c.args.piece.now c.append.ensures.moves

pub returns-clause-staged : goal.returns-clause-staged
returns-clause-staged g c =
    append_staged_called crash_laws _ _ _ _ c.open_name.ensures c.args.piece.now _ c.append.ensures.moves

pub returns-clause-others : goal.returns-clause-others
returns-clause-others g c = append_keeps _ _ _ _ c.open_name.ensures.is _ c.args.piece.now c.append.ensures.moves

pub returns-clause-proper : goal.returns-clause-proper
returns-clause-proper g c =
    append_proper crash_laws _ (g.T.Tree.history c.args.tree.now) _ _ c.open_name.ensures _ _ _ c.append.ensures.counts

pub returns-clause-maps : goal.returns-clause-maps
returns-clause-maps g c = append_maps _ _ _ [] _ c.args.piece.now c.append.ensures.moves
