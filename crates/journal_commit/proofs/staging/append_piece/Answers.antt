use Rattle.std.proofs.Common.{◌++◌, Some}
use Rattle.journal_commit.proofs.Stays.{grown_run, open_moments, open_proper, open_staged, staging_more}
use Rattle.journal_commit.proofs.staging.append_piece.Goals as goal

pub returns-clause-only : goal.returns-clause-only
returns-clause-only g c = record {
  run = λ contents so_far v first s. grown_run c.args.stage.now contents so_far v first _ _ s (open_moments c.args.stage.now contents v _ _ so_far c.file_append.ensures.moments) c.file_append.ensures.others c.file_append.ensures.maps;
  counts = c.file_append.ensures.counts;
  proper = λ contents so_far v first s. open_proper c.args.stage.now contents v _ (g.T.Tree.history c.args.tree.now) so_far first _ _ s c.file_append.ensures.proper;
}

pub returns-clause-staging : goal.returns-clause-staging
returns-clause-staging g c contents so_far v first s =
    staging_more c.args.stage.now contents (Some so_far) v first _ _ s c.file_append.result _ contents (Some (so_far ++ c.args.piece.now))
    (grown_run c.args.stage.now contents so_far v first _ _ s (open_moments c.args.stage.now contents v _ _ so_far c.file_append.ensures.moments) c.file_append.ensures.others c.file_append.ensures.maps)
    (open_staged c.args.stage.now contents v _ _ so_far c.file_append.result (λ cs bytes. cs) (λ bytes. Some (bytes ++ c.args.piece.now)) _ c.file_append.ensures.staged)
