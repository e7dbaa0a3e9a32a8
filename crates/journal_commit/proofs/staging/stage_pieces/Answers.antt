use Rattle.std.proofs.Common.{◌∙◌}
use Rattle.base_core.proofs.Counting.{goes_on_same, goes_on_twice, no_fault_twice}
use Rattle.journal_commit.proofs.Counted.{ended_view, err_counts, err_not_ok, later_counts}
use Rattle.journal_commit.proofs.staging.stage_pieces.Goals as goal

pub returns-in_err-append_piece : goal.returns-in_err-append_piece
returns-in_err-append_piece g c = record {
  only = record {
    run =
        λ contents v first staging.
        c.in_err-append_piece.ensures.only.run contents _ v first (c.in_ok-begin_file.ensures.staging contents v first staging);
    counts = err_counts _ _ _ c.from_residual-in_err-append_piece.result c.from_residual-in_err-append_piece.ensures.0 c.in_ok-begin_file.ensures.only.counts.goes_on c.in_err-append_piece.ensures.only.counts.goes_on c.in_err-append_piece.ensures.only.counts.cause;
    proper =
        λ contents v first staging room.
        c.in_err-append_piece.ensures.only.proper contents _ v first (c.in_ok-begin_file.ensures.staging contents v first staging)
        ∙ c.in_ok-begin_file.ensures.only.proper contents v first staging room;
  };
  staging = λ contents v first s. err_not_ok c.from_residual-in_err-append_piece.result _ c.from_residual-in_err-append_piece.ensures.0;
  view = err_not_ok c.from_residual-in_err-append_piece.result _ c.from_residual-in_err-append_piece.ensures.0;
}

pub returns-in_err-append_piece-2 : goal.returns-in_err-append_piece-2
returns-in_err-append_piece-2 g c = record {
  only = record {
    run =
        λ contents v first staging.
        c.in_err-append_piece-2.ensures.only.run contents _ v first
        (c.in_ok-append_piece.ensures.staging contents _ v first (c.in_ok-begin_file.ensures.staging contents v first staging));
    counts = err_counts _ _ _ c.from_residual-in_err-append_piece-2.result c.from_residual-in_err-append_piece-2.ensures.0 (goes_on_twice _ _ _ c.in_ok-begin_file.ensures.only.counts.goes_on c.in_ok-append_piece.ensures.only.counts.goes_on) c.in_err-append_piece-2.ensures.only.counts.goes_on c.in_err-append_piece-2.ensures.only.counts.cause;
    proper =
        λ contents v first staging room.
        let begun = c.in_ok-begin_file.ensures.staging contents v first staging in
        c.in_err-append_piece-2.ensures.only.proper contents _ v first (c.in_ok-append_piece.ensures.staging contents _ v first begun)
        ∙ (c.in_ok-append_piece.ensures.only.proper contents _ v first begun ∙ c.in_ok-begin_file.ensures.only.proper contents v first staging room);
  };
  staging = λ contents v first s. err_not_ok c.from_residual-in_err-append_piece-2.result _ c.from_residual-in_err-append_piece-2.ensures.0;
  view = err_not_ok c.from_residual-in_err-append_piece-2.result _ c.from_residual-in_err-append_piece-2.ensures.0;
}

pub returns : goal.returns
returns g c = record {
  only = record {
    run =
        λ contents v first staging.
        c.end_file.ensures.only.run contents _ v first (c.in_ok-append_piece-2.ensures.staging contents _ v first
        (c.in_ok-append_piece.ensures.staging contents _ v first (c.in_ok-begin_file.ensures.staging contents v first staging)));
    counts = later_counts _ _ _ c.end_file.result (goes_on_twice _ _ _ (goes_on_twice _ _ _ c.in_ok-begin_file.ensures.only.counts.goes_on c.in_ok-append_piece.ensures.only.counts.goes_on) c.in_ok-append_piece-2.ensures.only.counts.goes_on) (no_fault_twice _ _ _ (no_fault_twice _ _ _ c.in_ok-begin_file.ensures.only.counts.kept c.in_ok-append_piece.ensures.only.counts.kept) c.in_ok-append_piece-2.ensures.only.counts.kept) c.end_file.ensures.only.counts;
    proper =
        λ contents v first staging room.
        let begun = c.in_ok-begin_file.ensures.staging contents v first staging in
        let marked = c.in_ok-append_piece.ensures.staging contents _ v first begun in
        c.end_file.ensures.only.proper contents _ v first (c.in_ok-append_piece-2.ensures.staging contents _ v first marked)
        ∙ (c.in_ok-append_piece-2.ensures.only.proper contents _ v first marked
        ∙ (c.in_ok-append_piece.ensures.only.proper contents _ v first begun ∙ c.in_ok-begin_file.ensures.only.proper contents v first staging room));
  };
  staging =
      λ contents v first staging.
      c.end_file.ensures.staging contents _ v first (c.in_ok-append_piece-2.ensures.staging contents _ v first
      (c.in_ok-append_piece.ensures.staging contents _ v first (c.in_ok-begin_file.ensures.staging contents v first staging)));
  view = ended_view c.end_file.result _ _ _ c.requires.closed (c.in_ok-append_piece-2.ensures.view ∙ (c.in_ok-append_piece.ensures.view ∙ c.in_ok-begin_file.ensures.view)) c.end_file.ensures.view;
}

pub returns-in_err-begin_file : goal.returns-in_err-begin_file
returns-in_err-begin_file g c = record {
  only = record {
    run = c.in_err-begin_file.ensures.only.run;
    counts = err_counts _ _ _ c.from_residual.result c.from_residual.ensures.0 (goes_on_same _) c.in_err-begin_file.ensures.only.counts.goes_on c.in_err-begin_file.ensures.only.counts.cause;
    proper = c.in_err-begin_file.ensures.only.proper;
  };
  staging = λ contents v first s. err_not_ok c.from_residual.result _ c.from_residual.ensures.0;
  view = err_not_ok c.from_residual.result _ c.from_residual.ensures.0;
}
