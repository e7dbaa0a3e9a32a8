use Rattle.std.proofs.Common.{◌++◌, ◌∷◌, [], None, Some}
use Rattle.journal_commit.proofs.Stays.{ended_run, open_moments, open_proper, open_staged, staging_more}
use Rattle.journal_commit.proofs.staging.end_file.Goals as goal

pub returns-clause-only : goal.returns-clause-only
returns-clause-only g c = record {
  run = λ contents so_far v first s. ended_run c.args.stage.now contents (Some so_far) v first _ _ s (open_moments c.args.stage.now contents v _ _ so_far c.file_end.ensures.moments) c.file_end.ensures.others c.file_end.ensures.maps;
  counts = c.file_end.ensures.counts;
  proper = λ contents so_far v first s. open_proper c.args.stage.now contents v _ (g.T.Tree.history c.args.tree.now) so_far first _ _ s c.file_end.ensures.proper;
}

pub returns-clause-staging : goal.returns-clause-staging
returns-clause-staging g c contents so_far v first s =
    staging_more c.args.stage.now contents (Some so_far) v first _ _ s c.file_end.result _ (contents ++ so_far ∷ []) None
    (ended_run c.args.stage.now contents (Some so_far) v first _ _ s (open_moments c.args.stage.now contents v _ _ so_far c.file_end.ensures.moments) c.file_end.ensures.others c.file_end.ensures.maps)
    (open_staged c.args.stage.now contents v _ _ so_far c.file_end.result (λ cs bytes. cs ++ bytes ∷ []) (λ bytes. None) _ c.file_end.ensures.staged)
