use Rattle.std.proofs.Common.{[], ◌∙◌}
use Rattle.base_core.proofs.Counting.{goes_on_same, goes_on_twice, no_fault_twice}
use Rattle.journal_commit.proofs.Counted.{ended_view, err_counts, err_not_ok, later_counts}
use Rattle.journal_commit.proofs.staging.stage_bytes.Goals as goal

pub returns-in_err-append_piece : goal.returns-in_err-append_piece
returns-in_err-append_piece g c = record {
  only = record {
    run = λ contents v first s. c.append_piece.ensures.only.run contents [] v first (c.in_ok-begin_file.ensures.staging contents v first s);
    counts = err_counts _ _ _ c.from_residual-in_err-append_piece.result c.from_residual-in_err-append_piece.ensures.0 c.in_ok-begin_file.ensures.only.counts.goes_on c.in_err-append_piece.ensures.only.counts.goes_on c.in_err-append_piece.ensures.only.counts.cause;
    proper = λ contents v first s room. c.append_piece.ensures.only.proper contents [] v first (c.in_ok-begin_file.ensures.staging contents v first s) ∙ c.begin_file.ensures.only.proper contents v first s room;
  };
  staging = λ contents v first s. err_not_ok c.from_residual-in_err-append_piece.result _ c.from_residual-in_err-append_piece.ensures.0;
  view = err_not_ok c.from_residual-in_err-append_piece.result _ c.from_residual-in_err-append_piece.ensures.0;
}

pub returns : goal.returns
returns g c = record {
  only = record {
    run = λ contents v first s. c.end_file.ensures.only.run contents c.args.bytes.now v first (c.in_ok-append_piece.ensures.staging contents [] v first (c.in_ok-begin_file.ensures.staging contents v first s));
    counts = later_counts _ _ _ c.end_file.result (goes_on_twice _ _ _ c.in_ok-begin_file.ensures.only.counts.goes_on c.in_ok-append_piece.ensures.only.counts.goes_on) (no_fault_twice _ _ _ c.in_ok-begin_file.ensures.only.counts.kept c.in_ok-append_piece.ensures.only.counts.kept) c.end_file.ensures.only.counts;
    proper = λ contents v first s room.
        c.end_file.ensures.only.proper contents c.args.bytes.now v first (c.in_ok-append_piece.ensures.staging contents [] v first (c.in_ok-begin_file.ensures.staging contents v first s))
        ∙ c.append_piece.ensures.only.proper contents [] v first (c.in_ok-begin_file.ensures.staging contents v first s) ∙ c.begin_file.ensures.only.proper contents v first s room;
  };
  staging = λ contents v first s. c.end_file.ensures.staging contents c.args.bytes.now v first (c.in_ok-append_piece.ensures.staging contents [] v first (c.in_ok-begin_file.ensures.staging contents v first s));
  view = ended_view c.end_file.result _ _ _ c.requires.closed (c.in_ok-append_piece.ensures.view ∙ c.in_ok-begin_file.ensures.view) c.end_file.ensures.view;
}

pub returns-in_err-begin_file : goal.returns-in_err-begin_file
returns-in_err-begin_file g c = record {
  only = record {
    run = c.in_err-begin_file.ensures.only.run;
    counts = err_counts _ _ _ c.from_residual.result c.from_residual.ensures.0 (goes_on_same _) c.in_err-begin_file.ensures.only.counts.goes_on c.in_err-begin_file.ensures.only.counts.cause;
    proper = c.in_err-begin_file.ensures.only.proper;
  };
  staging = λ contents v first s. err_not_ok c.from_residual.result _ c.from_residual.ensures.0;
  view = err_not_ok c.from_residual.result _ c.from_residual.ensures.0;
}
