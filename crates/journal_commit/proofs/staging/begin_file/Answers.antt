use Rattle.std.proofs.Common.{[], None, Some}
use Rattle.journal_commit.proofs.Stays.{begun_run, closed_moments, closed_proper, closed_staged, staging_more}
use Rattle.journal_commit.proofs.staging.begin_file.Goals as goal

pub returns-clause-only : goal.returns-clause-only
returns-clause-only g c = record {
  run = λ contents v first s. begun_run c.args.stage.now contents None v first _ _ s (closed_moments c.args.stage.now contents v _ _ c.file_begin.ensures.moments) c.file_begin.ensures.others c.file_begin.ensures.maps;
  counts = c.file_begin.ensures.counts;
  proper = λ contents v first s room. closed_proper c.args.stage.now contents v _ (g.T.Tree.history c.args.tree.now) first _ _ s room c.file_begin.ensures.proper;
}

pub returns-clause-staging : goal.returns-clause-staging
returns-clause-staging g c contents v first s =
    staging_more c.args.stage.now contents None v first _ _ s c.file_begin.result _ contents (Some [])
    (begun_run c.args.stage.now contents None v first _ _ s (closed_moments c.args.stage.now contents v _ _ c.file_begin.ensures.moments) c.file_begin.ensures.others c.file_begin.ensures.maps)
    (closed_staged c.args.stage.now contents v _ _ c.file_begin.result (λ cs. cs) (Some []) _ c.file_begin.ensures.staged)
