use Rattle.std.proofs.Common.{◌≡◌, ap, refl, sym, ◌∙◌, Ok, Err}
use Rattle.base_core.proofs.Counting.{goes_on_same, goes_on_twice, no_fault_twice}
use Rattle.package_verifier.specs.package_reader.declared.piece.PieceFault.TheVariants.{Bad, Disk}
use Rattle.journal_staging.proofs.Counted.{disk_counts, ended_view, err_counts, ok_counts}
use Rattle.journal_staging.proofs.OneFile.{begun_first, begun_listed, begun_more, begun_read, begun_run, come_bad, come_first, come_more, half_proper, if_disk, listed_more, listed_whole, not_ok, read_fails, read_more, read_proper, read_whole, same_bytes, same_fault, same_history}
use Rattle.journal_staging.proofs.file.stage_file.Goals as goal

pub pieces-init : goal.pieces-init
pieces-init g c = record {
  view = c.in_ok-begin_file.ensures.view;
  begun = begun_first _ _ _ _ c.in_ok-begin_file.ensures.staging;
  read = begun_read _ _ _ _ _ c.in_ok-begin_file.ensures.staging;
  listed = begun_listed _ _ c.args.file _ _ c.in_ok-begin_file.ensures.staging;
  come = come_first c.args.file;
  due = refl;
  goes_on = c.in_ok-begin_file.ensures.only.counts.goes_on;
  kept = c.in_ok-begin_file.ensures.only.counts.kept;
  proper = λ contents v first bytes staging reading room. c.in_ok-begin_file.ensures.only.proper contents v first staging room;
}

pub returns-in_err-next_piece-clause-source : goal.returns-in_err-next_piece-clause-source
returns-in_err-next_piece-clause-source g c = record {
  run = begun_run _ _ _ _ _ c.pieces.invariant.begun (λ contents so_far v first staging. (same_history _ _ _ _ _ _ _ c.in_err-next_piece.ensures.tree.same staging).run);
  staging = λ contents v first bytes staging reading. not_ok (λ e. e ≡ c.in_err-next_piece.field-0.0) c.from_residual-in_err-next_piece.result _ c.from_residual-in_err-next_piece.ensures.1;
  good =
      λ contents v first bytes staging reading.
      if_disk c.from_residual-in_err-next_piece.result c.in_err-next_piece.field-0.0 c.from_residual-in_err-next_piece.ensures.1
      (read_fails c.args.stage.now c.pieces.stage c.args.file c.pieces.file c.next_piece.new.self c.next_piece.new.piece _ (g.T.Tree.history c.pieces.tree) (g.T.Tree.history c.args.tree.now) c.next_piece.result
      c.pieces.invariant.read c.next_piece.ensures.piece contents v first bytes staging reading c.in_err-next_piece.field-0.0 c.in_err-next_piece.was);
  view = not_ok (λ e. e ≡ c.in_err-next_piece.field-0.0) c.from_residual-in_err-next_piece.result _ c.from_residual-in_err-next_piece.ensures.1;
  counts = err_counts _ _ _ _ c.from_residual-in_err-next_piece.result _ c.from_residual-in_err-next_piece.ensures.1 c.pieces.invariant.goes_on c.pieces.invariant.kept c.in_err-next_piece.ensures.tree.goes_on (λ off. c.in_err-next_piece.ensures.tree.disk (ap Err off)) c.in_err-next_piece.ensures.tree.others;
  proper = read_proper _ _ _ _ _ _ (g.T.Tree.history c.args.tree.now) c.pieces.invariant.read _ _ _ c.pieces.invariant.proper c.in_err-next_piece.ensures.tree.proper;
}

pub returns-in_err-next_piece-clause-bad : goal.returns-in_err-next_piece-clause-bad
returns-in_err-next_piece-clause-bad g c = λ come none cause is.
    come_bad c.args.file c.pieces.file c.next_piece.new.self c.next_piece.new.piece c.next_piece.result c.pieces.invariant.come c.next_piece.ensures.tested c.pieces.invariant.due come none cause
    (c.in_err-next_piece.was ∙ ap Err (same_fault c.from_residual-in_err-next_piece.result c.in_err-next_piece.field-0.0 (Bad cause) c.from_residual-in_err-next_piece.ensures.1 is))

pub pieces-preserved : goal.pieces-preserved
pieces-preserved g c = record {
  view = c.in_ok-append_piece.ensures.view ∙ c.pieces.invariant.view;
  begun = begun_more _ _ _ _ _ c.pieces.invariant.begun _ _
      (λ contents so_far v first staging. c.in_ok-append_piece.ensures.staging contents so_far v first (same_history _ _ _ _ _ _ _ c.in_ok-next_piece.ensures.tree.same staging));
  read = read_more c.args.stage.now c.pieces.stage c.args.file c.pieces.file c.next_piece.new.self c.next_piece.new.piece _ (g.T.Tree.history c.pieces.tree) (g.T.Tree.history c.append_piece.new.tree) c.next_piece.result
      c.pieces.invariant.read c.next_piece.ensures.piece c.next_piece.ensures.name c.next_piece.ensures.len c.append_piece.new.stage (c.in_ok-next_piece.was ∙ ap Ok c.if-branch.true)
      (λ contents so_far v first staging. same_bytes _ contents so_far _ _ v first _ (sym c.bytes.ensures.bytes)
      (c.in_ok-append_piece.ensures.staging contents so_far v first (same_history _ _ _ _ _ _ _ c.in_ok-next_piece.ensures.tree.same staging)));
  listed = listed_more c.args.stage.now c.pieces.stage c.args.file c.pieces.file c.next_piece.new.self c.next_piece.new.piece _ (g.T.Tree.history c.pieces.tree) (g.T.Tree.history c.append_piece.new.tree) c.next_piece.result
      c.pieces.invariant.listed c.next_piece.ensures.tested c.append_piece.new.stage (c.in_ok-next_piece.was ∙ ap Ok c.if-branch.true)
      (λ contents so_far v first staging. same_bytes _ contents so_far _ _ v first _ (sym c.bytes.ensures.bytes)
      (c.in_ok-append_piece.ensures.staging contents so_far v first (same_history _ _ _ _ _ _ _ c.in_ok-next_piece.ensures.tree.same staging)));
  come = come_more c.args.file c.pieces.file c.next_piece.new.self c.next_piece.new.piece c.next_piece.result c.pieces.invariant.come c.next_piece.ensures.tested (c.in_ok-next_piece.was ∙ ap Ok c.if-branch.true);
  due = c.next_piece.ensures.due ∙ c.pieces.invariant.due;
  goes_on = goes_on_twice _ _ _ (goes_on_twice _ _ _ c.pieces.invariant.goes_on c.in_ok-next_piece.ensures.tree.goes_on) c.in_ok-append_piece.ensures.only.counts.goes_on;
  kept = no_fault_twice _ _ _ (no_fault_twice _ _ _ c.pieces.invariant.kept c.in_ok-next_piece.ensures.tree.kept) c.in_ok-append_piece.ensures.only.counts.kept;
  proper = half_proper _ _ _ _ _ _ (g.T.Tree.history c.args.tree.now) c.pieces.invariant.read _ _ _
      (read_proper _ _ _ _ _ _ (g.T.Tree.history c.args.tree.now) c.pieces.invariant.read _ _ _ c.pieces.invariant.proper c.in_ok-next_piece.ensures.tree.proper)
      (λ contents so_far v first staging. c.in_ok-append_piece.ensures.only.proper contents so_far v first (same_history _ _ _ _ _ _ _ c.in_ok-next_piece.ensures.tree.same staging));
}

pub returns-in_err-append_piece-clause-source : goal.returns-in_err-append_piece-clause-source
returns-in_err-append_piece-clause-source g c = record {
  run = begun_run _ _ _ _ _ c.pieces.invariant.begun (λ contents so_far v first staging. c.in_err-append_piece.ensures.only.run contents so_far v first (same_history _ _ _ _ _ _ _ c.in_ok-next_piece.ensures.tree.same staging));
  staging = λ contents v first bytes staging reading. not_ok (λ e. e ≡ Disk) c.from_residual-in_err-append_piece.result _ c.from_residual-in_err-append_piece.ensures.1;
  good = λ contents v first bytes staging reading. if_disk c.from_residual-in_err-append_piece.result Disk c.from_residual-in_err-append_piece.ensures.1 refl;
  view = not_ok (λ e. e ≡ Disk) c.from_residual-in_err-append_piece.result _ c.from_residual-in_err-append_piece.ensures.1;
  counts = disk_counts _ _ _ _ c.from_residual-in_err-append_piece.result c.from_residual-in_err-append_piece.ensures.1 (goes_on_twice _ _ _ c.pieces.invariant.goes_on c.in_ok-next_piece.ensures.tree.goes_on) c.in_err-append_piece.ensures.only.counts.goes_on c.in_err-append_piece.ensures.only.counts.cause;
  proper =
      half_proper _ _ _ _ _ _ (g.T.Tree.history c.args.tree.now) c.pieces.invariant.read _ _ _
      (read_proper _ _ _ _ _ _ (g.T.Tree.history c.args.tree.now) c.pieces.invariant.read _ _ _ c.pieces.invariant.proper c.in_ok-next_piece.ensures.tree.proper)
      (λ contents so_far v first staging. c.in_err-append_piece.ensures.only.proper contents so_far v first (same_history _ _ _ _ _ _ _ c.in_ok-next_piece.ensures.tree.same staging));
}

pub returns-in_err-end_file-clause-source : goal.returns-in_err-end_file-clause-source
returns-in_err-end_file-clause-source g c = record {
  run = begun_run _ _ _ _ _ c.pieces.invariant.begun (λ contents so_far v first staging. c.in_err-end_file.ensures.only.run contents so_far v first (same_history _ _ _ _ _ _ _ c.in_ok-next_piece.ensures.tree.same staging));
  staging = λ contents v first bytes staging reading. not_ok (λ e. e ≡ Disk) c.from_residual-in_err-end_file.result _ c.from_residual-in_err-end_file.ensures.1;
  good = λ contents v first bytes staging reading. if_disk c.from_residual-in_err-end_file.result Disk c.from_residual-in_err-end_file.ensures.1 refl;
  view = not_ok (λ e. e ≡ Disk) c.from_residual-in_err-end_file.result _ c.from_residual-in_err-end_file.ensures.1;
  counts = disk_counts _ _ _ _ c.from_residual-in_err-end_file.result c.from_residual-in_err-end_file.ensures.1 (goes_on_twice _ _ _ c.pieces.invariant.goes_on c.in_ok-next_piece.ensures.tree.goes_on) c.in_err-end_file.ensures.only.counts.goes_on c.in_err-end_file.ensures.only.counts.cause;
  proper =
      half_proper _ _ _ _ _ _ (g.T.Tree.history c.args.tree.now) c.pieces.invariant.read _ _ _
      (read_proper _ _ _ _ _ _ (g.T.Tree.history c.args.tree.now) c.pieces.invariant.read _ _ _ c.pieces.invariant.proper c.in_ok-next_piece.ensures.tree.proper)
      (λ contents so_far v first staging. c.in_err-end_file.ensures.only.proper contents so_far v first (same_history _ _ _ _ _ _ _ c.in_ok-next_piece.ensures.tree.same staging));
}

pub returns-clause-source : goal.returns-clause-source
returns-clause-source g c = record {
  run = begun_run _ _ _ _ _ c.pieces.invariant.begun (λ contents so_far v first staging. c.in_ok-end_file.ensures.only.run contents so_far v first (same_history _ _ _ _ _ _ _ c.in_ok-next_piece.ensures.tree.same staging));
  staging =
      λ contents v first bytes staging reading.
      c.in_ok-end_file.ensures.staging contents bytes v first (same_history _ _ _ _ _ _ _ c.in_ok-next_piece.ensures.tree.same
      (read_whole c.args.stage.now c.pieces.stage c.args.file c.pieces.file c.next_piece.new.self c.next_piece.new.piece _ (g.T.Tree.history c.pieces.tree) (g.T.Tree.history c.args.tree.now) c.next_piece.result
      c.pieces.invariant.read c.next_piece.ensures.piece c.next_piece.ensures.name c.next_piece.ensures.len (c.in_ok-next_piece.was ∙ ap Ok c.if-branch.false) contents v first bytes staging reading));
  good = λ contents v first bytes staging reading. tt;
  view = ended_view _ _ _ c.requires.closed c.pieces.invariant.view c.in_ok-end_file.ensures.view;
  counts =
      ok_counts _ _ _ tt (goes_on_twice _ _ _ (goes_on_twice _ _ _ c.pieces.invariant.goes_on c.in_ok-next_piece.ensures.tree.goes_on) c.in_ok-end_file.ensures.only.counts.goes_on)
      (no_fault_twice _ _ _ (no_fault_twice _ _ _ c.pieces.invariant.kept c.in_ok-next_piece.ensures.tree.kept) c.in_ok-end_file.ensures.only.counts.kept);
  proper =
      half_proper _ _ _ _ _ _ (g.T.Tree.history c.args.tree.now) c.pieces.invariant.read _ _ _
      (read_proper _ _ _ _ _ _ (g.T.Tree.history c.args.tree.now) c.pieces.invariant.read _ _ _ c.pieces.invariant.proper c.in_ok-next_piece.ensures.tree.proper)
      (λ contents so_far v first staging. c.in_ok-end_file.ensures.only.proper contents so_far v first (same_history _ _ _ _ _ _ _ c.in_ok-next_piece.ensures.tree.same staging));
}

pub returns-clause-listed : goal.returns-clause-listed
returns-clause-listed g c = λ come contents v first staging.
    let whole = listed_whole c.args.stage.now c.pieces.stage c.args.file c.pieces.file c.next_piece.new.self c.next_piece.new.piece (g.T.Tree.history c.args.tree.now) (g.T.Tree.history c.pieces.tree) (g.T.Tree.history c.pieces.tree) c.next_piece.result
    c.pieces.invariant.listed c.next_piece.ensures.tested c.pieces.invariant.due (c.in_ok-next_piece.was ∙ ap Ok c.if-branch.false) come contents v first staging in
    (whole.0, whole.1, c.in_ok-end_file.ensures.staging contents whole.0 v first (same_history _ _ _ _ _ _ _ c.in_ok-next_piece.ensures.tree.same whole.2))

pub returns-in_err-begin_file-clause-source : goal.returns-in_err-begin_file-clause-source
returns-in_err-begin_file-clause-source g c = record {
  run = c.in_err-begin_file.ensures.only.run;
  staging = λ contents v first bytes staging reading. not_ok (λ e. e ≡ Disk) c.from_residual.result _ c.from_residual.ensures.1;
  good = λ contents v first bytes staging reading. if_disk c.from_residual.result Disk c.from_residual.ensures.1 refl;
  view = not_ok (λ e. e ≡ Disk) c.from_residual.result _ c.from_residual.ensures.1;
  counts = disk_counts _ _ _ _ c.from_residual.result c.from_residual.ensures.1 (goes_on_same _) c.in_err-begin_file.ensures.only.counts.goes_on c.in_err-begin_file.ensures.only.counts.cause;
  proper = λ contents v first bytes staging reading room. c.in_err-begin_file.ensures.only.proper contents v first staging room;
}

pub returns-in_err-begin_file-clause-listed : goal.returns-in_err-begin_file-clause-listed
returns-in_err-begin_file-clause-listed g c = λ come contents v first staging. not_ok (λ e. e ≡ Disk) c.from_residual.result _ c.from_residual.ensures.1

pub returns-in_err-begin_file-clause-bad : goal.returns-in_err-begin_file-clause-bad
returns-in_err-begin_file-clause-bad g c = λ come none cause is. cc (same_fault c.from_residual.result Disk (Bad cause) c.from_residual.ensures.1 is)

pub returns-in_err-next_piece-clause-listed : goal.returns-in_err-next_piece-clause-listed
returns-in_err-next_piece-clause-listed g c = λ come contents v first staging. not_ok (λ e. e ≡ c.in_err-next_piece.field-0.0) c.from_residual-in_err-next_piece.result _ c.from_residual-in_err-next_piece.ensures.1

pub returns-in_err-append_piece-clause-listed : goal.returns-in_err-append_piece-clause-listed
returns-in_err-append_piece-clause-listed g c = λ come contents v first staging. not_ok (λ e. e ≡ Disk) c.from_residual-in_err-append_piece.result _ c.from_residual-in_err-append_piece.ensures.1

pub returns-in_err-append_piece-clause-bad : goal.returns-in_err-append_piece-clause-bad
returns-in_err-append_piece-clause-bad g c = λ come none cause is. cc (same_fault c.from_residual-in_err-append_piece.result Disk (Bad cause) c.from_residual-in_err-append_piece.ensures.1 is)

pub returns-in_err-end_file-clause-listed : goal.returns-in_err-end_file-clause-listed
returns-in_err-end_file-clause-listed g c = λ come contents v first staging. not_ok (λ e. e ≡ Disk) c.from_residual-in_err-end_file.result _ c.from_residual-in_err-end_file.ensures.1

pub returns-in_err-end_file-clause-bad : goal.returns-in_err-end_file-clause-bad
returns-in_err-end_file-clause-bad g c = λ come none cause is. cc (same_fault c.from_residual-in_err-end_file.result Disk (Bad cause) c.from_residual-in_err-end_file.ensures.1 is)

pub returns-clause-bad : goal.returns-clause-bad
returns-clause-bad g c = λ come none cause is. cc (is)
