use Rattle.option_ranks.proofs.candidate_core.Installed.{counted_once, stands_last}
use Rattle.pool_core.proofs.SamePackage.{kept}
use Rattle.pool_core.proofs.laws.installed_candidates_count_once.Goals as goal

pub returns-clause-once : goal.returns-clause-once
returns-clause-once c = λ cs installed h. counted_once cs installed h

pub returns-clause-apart : goal.returns-clause-apart
returns-clause-apart c = λ cs installed h. stands_last cs installed h

pub returns-clause-kept : goal.returns-clause-kept
returns-clause-kept c = λ cs installed candidate place h. kept cs installed candidate place h
