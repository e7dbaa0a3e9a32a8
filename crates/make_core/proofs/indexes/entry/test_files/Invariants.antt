-- The files that are left have the same fault, and are fewer.
use Rattle.std.proofs.Common.{◌≡◌, length}
use Rattle.pkg_core.specs.Contents.{contents_in, fault_of_files_read}
use Rattle.pkg_core.specs.Opened.{opened_files, opened_payload, opened_value}
use Rattle.make_core.proofs.indexes.entry.test_files.Given as goal

abbrev pub invariant-loop : goal.invariant-loop
invariant-loop l = record {
  files : fault_of_files_read (opened_files l.pkg) ≡ fault_of_files_read (opened_files l.initial.pkg);
  value : opened_value l.pkg ≡ opened_value l.initial.pkg;
  payload : opened_payload l.pkg ≡ opened_payload l.initial.pkg;
}

abbrev pub decreases-loop : goal.decreases-loop
decreases-loop l = length (contents_in (opened_files l.pkg))
