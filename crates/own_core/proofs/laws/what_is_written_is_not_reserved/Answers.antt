use Rattle.own_core.proofs.Reserved.{records_reserved, written_unreserved}
use Rattle.own_core.proofs.laws.what_is_written_is_not_reserved.Goals as goal

pub returns-clause-written : goal.returns-clause-written
returns-clause-written c = written_unreserved

pub returns-clause-records : goal.returns-clause-records
returns-clause-records c = records_reserved
