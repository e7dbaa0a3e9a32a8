use Rattle.apk_front.proofs.Unrecovered.{same_files, same_work}
use Rattle.apk_front.proofs.laws.without_recovery_the_files_are_the_old_ones.Goals as goal

pub returns-clause-moments : goal.returns-clause-moments
returns-clause-moments c = same_files

pub returns-clause-work : goal.returns-clause-work
returns-clause-work c = same_work
