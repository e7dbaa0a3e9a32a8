use Rattle.std.proofs.Common.{◌≡◌, ◌++◌, ◌∷◌, [], ℕ, List, None, refl, sym, subst}
use Rattle.journal_commit.specs.StageRun.{IsRunThatStagedAndBeganFiles}
use Rattle.base_core.specs.Tree.{files_of}
use Rattle.base_core.proofs.Counting.{goes_on_same}
use Rattle.journal_staging.specs.Spoiled.{IsSpoiledAt}
use Rattle.journal_staging.specs.declared.writes.StageFault.TheVariants.{Bad, Disk}
use Rattle.journal_staging.proofs.OneFile.{if_disk, not_ok, same_fault}
use Rattle.journal_staging.proofs.Counted.{disk_counts, ok_counts}
use Rattle.journal_staging.proofs.Files.{file_listed, file_stands, given_listed, given_stands, link_listed, link_stands, link_waits}
use Rattle.journal_staging.proofs.writes.stage_write.Goals as goal

pub returns-in_ok-stage_bytes-in-Bytes-clause-source : goal.returns-in_ok-stage_bytes-in-Bytes-clause-source
returns-in_ok-stage_bytes-in-Bytes-clause-source g c = record {
  run = c.in_ok-stage_bytes-in-Bytes.ensures.only.run;
  staging =
      λ contents v first bytes staging is.
      subst (λ (b : List ℕ). IsRunThatStagedAndBeganFiles c.stage_bytes.new.stage (contents ++ b ∷ []) None v first (g.T.Tree.history c.stage_bytes.new.tree))
      (sym (given_stands (files_of v) c.args.source.now _ bytes c.in-Bytes.is is)) (c.in_ok-stage_bytes-in-Bytes.ensures.staging contents v first staging);
  good = λ contents v first bytes staging is. tt;
  view = c.in_ok-stage_bytes-in-Bytes.ensures.view;
  counts = ok_counts _ _ _ _ c.in_ok-stage_bytes-in-Bytes.ensures.only.counts.goes_on c.in_ok-stage_bytes-in-Bytes.ensures.only.counts.kept;
  proper = λ contents v first bytes staging is room. c.in_ok-stage_bytes-in-Bytes.ensures.only.proper contents v first staging room;
}

pub returns-in_ok-stage_pieces-in-Link-clause-source : goal.returns-in_ok-stage_pieces-in-Link-clause-source
returns-in_ok-stage_pieces-in-Link-clause-source g c = record {
  run = c.in_ok-stage_pieces-in-Link.ensures.only.run;
  staging =
      λ contents v first bytes staging is.
      subst (λ (b : List ℕ). IsRunThatStagedAndBeganFiles c.stage_pieces.new.stage (contents ++ b ∷ []) None v first (g.T.Tree.history c.stage_pieces.new.tree))
      (sym (link_stands (files_of v) c.args.source.now _ bytes c.in-Link.is is))
      (link_waits c.link_text_of_target.result.now c.in-Link.target.now (λ b. IsRunThatStagedAndBeganFiles c.stage_pieces.new.stage (contents ++ b ∷ []) None v first (g.T.Tree.history c.stage_pieces.new.tree))
      c.link_text_of_target.ensures (c.in_ok-stage_pieces-in-Link.ensures.staging contents v first staging));
  good = λ contents v first bytes staging is. tt;
  view = c.in_ok-stage_pieces-in-Link.ensures.view;
  counts = ok_counts _ _ _ _ c.in_ok-stage_pieces-in-Link.ensures.only.counts.goes_on c.in_ok-stage_pieces-in-Link.ensures.only.counts.kept;
  proper = λ contents v first bytes staging is room. c.in_ok-stage_pieces-in-Link.ensures.only.proper contents v first staging room;
}

pub returns-in_ok-stage_bytes-in-Bytes-clause-listed : goal.returns-in_ok-stage_bytes-in-Bytes-clause-listed
returns-in_ok-stage_bytes-in-Bytes-clause-listed g c = λ contents v first staging.
    given_listed c.args.source.now _ (λ b. IsRunThatStagedAndBeganFiles c.stage_bytes.new.stage (contents ++ b ∷ []) None v first (g.T.Tree.history c.stage_bytes.new.tree)) c.in-Bytes.is
    (c.in_ok-stage_bytes-in-Bytes.ensures.staging contents v first staging)

pub returns-in_ok-stage_pieces-in-Link-clause-listed : goal.returns-in_ok-stage_pieces-in-Link-clause-listed
returns-in_ok-stage_pieces-in-Link-clause-listed g c = λ contents v first staging.
    link_listed c.args.source.now _ (λ b. IsRunThatStagedAndBeganFiles c.stage_pieces.new.stage (contents ++ b ∷ []) None v first (g.T.Tree.history c.stage_pieces.new.tree)) c.in-Link.is
    (link_waits c.link_text_of_target.result.now c.in-Link.target.now (λ b. IsRunThatStagedAndBeganFiles c.stage_pieces.new.stage (contents ++ b ∷ []) None v first (g.T.Tree.history c.stage_pieces.new.tree))
    c.link_text_of_target.ensures (c.in_ok-stage_pieces-in-Link.ensures.staging contents v first staging))

pub returns-in-File-clause-listed : goal.returns-in-File-clause-listed
returns-in-File-clause-listed g c = λ contents v first staging.
    file_listed c.stage_packaged.result c.args.source.now _ (λ b. IsRunThatStagedAndBeganFiles c.stage_packaged.new.stage (contents ++ b ∷ []) None v first (g.T.Tree.history c.stage_packaged.new.tree)) c.in-File.is
    (c.stage_packaged.ensures.listed contents v first staging)

pub returns-in-File-clause-source : goal.returns-in-File-clause-source
returns-in-File-clause-source g c =
    let source = c.stage_packaged.ensures.source in record {
      run = source.run;
      staging = λ contents v first bytes staging is. source.staging contents v first bytes staging (file_stands (files_of v) c.args.source.now _ bytes c.in-File.is is);
      good = λ contents v first bytes staging is. source.good contents v first bytes staging (file_stands (files_of v) c.args.source.now _ bytes c.in-File.is is);
      view = source.view;
      counts = source.counts;
      proper = λ contents v first bytes staging is room. source.proper contents v first bytes staging (file_stands (files_of v) c.args.source.now _ bytes c.in-File.is is) room;
    }

pub returns-in-File-clause-bad : goal.returns-in-File-clause-bad
returns-in-File-clause-bad g c = λ member cause is. subst (IsSpoiledAt member cause) (sym c.in-File.is) (c.stage_packaged.ensures.bad member cause is)

pub returns-in_err-stage_bytes-in-Bytes-clause-source : goal.returns-in_err-stage_bytes-in-Bytes-clause-source
returns-in_err-stage_bytes-in-Bytes-clause-source g c = record {
  run = c.in_err-stage_bytes-in-Bytes.ensures.only.run;
  staging = λ contents v first bytes staging is. not_ok (λ e. e ≡ Disk) c.from_residual.result _ c.from_residual.ensures.1;
  good = λ contents v first bytes staging is. if_disk c.from_residual.result Disk c.from_residual.ensures.1 refl;
  view = not_ok (λ e. e ≡ Disk) c.from_residual.result _ c.from_residual.ensures.1;
  counts = disk_counts _ _ _ _ c.from_residual.result c.from_residual.ensures.1 (goes_on_same _) c.in_err-stage_bytes-in-Bytes.ensures.only.counts.goes_on c.in_err-stage_bytes-in-Bytes.ensures.only.counts.cause;
  proper = λ contents v first bytes staging is room. c.in_err-stage_bytes-in-Bytes.ensures.only.proper contents v first staging room;
}

pub returns-in_err-stage_bytes-in-Bytes-clause-listed : goal.returns-in_err-stage_bytes-in-Bytes-clause-listed
returns-in_err-stage_bytes-in-Bytes-clause-listed g c = λ contents v first staging. not_ok (λ e. e ≡ Disk) c.from_residual.result _ c.from_residual.ensures.1

pub returns-in_err-stage_bytes-in-Bytes-clause-bad : goal.returns-in_err-stage_bytes-in-Bytes-clause-bad
returns-in_err-stage_bytes-in-Bytes-clause-bad g c = λ member cause is. cc (same_fault c.from_residual.result Disk (Bad member cause) c.from_residual.ensures.1 is)

pub returns-in_err-stage_pieces-in-Link-clause-source : goal.returns-in_err-stage_pieces-in-Link-clause-source
returns-in_err-stage_pieces-in-Link-clause-source g c = record {
  run = c.in_err-stage_pieces-in-Link.ensures.only.run;
  staging = λ contents v first bytes staging is. not_ok (λ e. e ≡ Disk) c.from_residual-in_err-stage_pieces-in-Link.result _ c.from_residual-in_err-stage_pieces-in-Link.ensures.1;
  good = λ contents v first bytes staging is. if_disk c.from_residual-in_err-stage_pieces-in-Link.result Disk c.from_residual-in_err-stage_pieces-in-Link.ensures.1 refl;
  view = not_ok (λ e. e ≡ Disk) c.from_residual-in_err-stage_pieces-in-Link.result _ c.from_residual-in_err-stage_pieces-in-Link.ensures.1;
  counts = disk_counts _ _ _ _ c.from_residual-in_err-stage_pieces-in-Link.result c.from_residual-in_err-stage_pieces-in-Link.ensures.1 (goes_on_same _) c.in_err-stage_pieces-in-Link.ensures.only.counts.goes_on c.in_err-stage_pieces-in-Link.ensures.only.counts.cause;
  proper = λ contents v first bytes staging is room. c.in_err-stage_pieces-in-Link.ensures.only.proper contents v first staging room;
}

pub returns-in_err-stage_pieces-in-Link-clause-listed : goal.returns-in_err-stage_pieces-in-Link-clause-listed
returns-in_err-stage_pieces-in-Link-clause-listed g c = λ contents v first staging. not_ok (λ e. e ≡ Disk) c.from_residual-in_err-stage_pieces-in-Link.result _ c.from_residual-in_err-stage_pieces-in-Link.ensures.1

pub returns-in_err-stage_pieces-in-Link-clause-bad : goal.returns-in_err-stage_pieces-in-Link-clause-bad
returns-in_err-stage_pieces-in-Link-clause-bad g c = λ member cause is. cc (same_fault c.from_residual-in_err-stage_pieces-in-Link.result Disk (Bad member cause) c.from_residual-in_err-stage_pieces-in-Link.ensures.1 is)

pub returns-in_ok-stage_bytes-in-Bytes-clause-bad : goal.returns-in_ok-stage_bytes-in-Bytes-clause-bad
returns-in_ok-stage_bytes-in-Bytes-clause-bad g c = λ member cause is. cc (is)

pub returns-in_ok-stage_pieces-in-Link-clause-bad : goal.returns-in_ok-stage_pieces-in-Link-clause-bad
returns-in_ok-stage_pieces-in-Link-clause-bad g c = λ member cause is. cc (is)
