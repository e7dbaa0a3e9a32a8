use Rattle.definition_laws.proofs.answers.Reported.{absent, installed, installed_version, purged, purged_version}
use Rattle.definition_laws.proofs.answers.changes.a_package_on_one_side_is_installed_or_removed.Goals as goal

pub returns : goal.returns
returns c = record { purge = purged; install = installed; purged_version = purged_version; installed_version = installed_version; absent = absent }
