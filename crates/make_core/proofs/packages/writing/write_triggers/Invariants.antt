use Rattle.command_core.specs.declared.values.TheConstants.{TRIGGER}
use Rattle.std.proofs.Common.{◌≡◌, drop}
use Rattle.package_files.specs.adb_values.Drafts.{draft_with_all}
use Rattle.package_files.specs.Sources.{values_of_letter}
use Rattle.make_core.proofs.WriteLemmas.{blobs}
use Rattle.make_core.proofs.packages.writing.write_triggers.Given as goal

-- with those that are left it has all
abbrev pub invariant-loop-i : goal.invariant-loop-i
invariant-loop-i l = draft_with_all (blobs (values_of_letter TRIGGER (drop l.i l.values))) l.draft ≡ draft_with_all (blobs (values_of_letter TRIGGER l.values)) l.initial.draft
