use Rattle.definition_laws.proofs.outcomes.DumpFaults.{fault_refused, files_kept, only_faults, refused_silently}
use Rattle.definition_laws.proofs.outcomes.dump.adbdump_refuses_the_first_failed_test.Goals as goal

pub returns : goal.returns
returns c = record { refused = fault_refused; only = only_faults; nothing = refused_silently; same = files_kept }
