use Rattle.journal_commit.proofs.Ways.{staging_leads}
use Rattle.journal_commit.proofs.staging.a_staging_run_is_a_stage_run.Goals as goal

pub returns : goal.returns
returns c = staging_leads
