-- The files that are left have the same fault, and are fewer.
use Rattle.std.proofs.Common.{◌≡◌, length}
use Rattle.pkg_core.specs.Contents.{contents_in, fault_of_files_read}
use Rattle.pkg_core.specs.Opened.{opened_files}
use Rattle.pkg_core.proofs.checks.check_files.Given as goal

abbrev pub invariant-loop : goal.invariant-loop
invariant-loop l = fault_of_files_read (opened_files l.pkg) ≡ fault_of_files_read (opened_files l.initial.pkg)

abbrev pub decreases-loop : goal.decreases-loop
decreases-loop l = length (contents_in (opened_files l.pkg))
