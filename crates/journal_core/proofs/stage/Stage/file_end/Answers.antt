use Rattle.std.proofs.Common.{ap, ◌+◌, []}
use Rattle.journal_core.specs.Staged.{Staging}
use Rattle.journal_core.proofs.Filed.{end_moments, end_staged, append_proper}
use Rattle.journal_core.proofs.Keeping.{sync_keeps}
use Rattle.journal_core.proofs.Maps.{sync_maps}
use Rattle.journal_core.proofs.Images.{crash_laws}
use Rattle.journal_core.proofs.stage.Stage.file_end.Goals as goal

pub returns-in_err-sync_file-clause-moments : goal.returns-in_err-sync_file-clause-moments
returns-in_err-sync_file-clause-moments g c =
    end_moments crash_laws _ _ _ _ c.open_name.ensures _ c.in_err-sync_file.ensures.moves

pub returns-in_err-sync_file-clause-proper : goal.returns-in_err-sync_file-clause-proper
returns-in_err-sync_file-clause-proper g c =
    append_proper crash_laws _ (g.T.Tree.history c.args.tree.now) _ _ c.open_name.ensures _ _ _ c.in_err-sync_file.ensures.counts

pub returns-clause-moments : goal.returns-clause-moments
returns-clause-moments g c =
    end_moments crash_laws _ _ _ _ c.open_name.ensures _ c.in_ok-sync_file.ensures.moves

pub returns-clause-staged : goal.returns-clause-staged
returns-clause-staged g c =
    end_staged crash_laws _ _ _ _ _ c.open_name.ensures _ c.in_ok-sync_file.ensures.moves (ap (λ (s : Staging). s.staged + 1) c.self.view_is)

pub returns-in_err-sync_file-clause-others : goal.returns-in_err-sync_file-clause-others
returns-in_err-sync_file-clause-others g c = sync_keeps _ _ _ _ c.in_err-sync_file.ensures.moves

pub returns-clause-others : goal.returns-clause-others
returns-clause-others g c = sync_keeps _ _ _ _ c.in_ok-sync_file.ensures.moves

pub returns-in_err-sync_file-clause-maps : goal.returns-in_err-sync_file-clause-maps
returns-in_err-sync_file-clause-maps g c = sync_maps _ _ _ [] _ c.in_err-sync_file.ensures.moves

pub returns-clause-maps : goal.returns-clause-maps
returns-clause-maps g c = sync_maps _ _ _ [] _ c.in_ok-sync_file.ensures.moves
