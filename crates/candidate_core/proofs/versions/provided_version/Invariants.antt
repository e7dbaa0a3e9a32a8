use Rattle.std.proofs.Common.{◌≡◌}
use Rattle.std.specs.Prelude.{None}
use Rattle.std.specs.List.{find}
use Rattle.adb_view.specs.Values.{entries_in, entry_at_index}
use Rattle.dep_core.specs.Meets.{dependency}
use Rattle.candidate_core.specs.Candidates.{is_met_by_provides_entry}
use Rattle.candidate_core.specs.PackageWords.{info_in_source}
use Rattle.candidate_core.proofs.DependencyLists.{dependencies_to}
use Rattle.candidate_core.proofs.versions.provided_version.Given as goal

abbrev pub invariant-loop-i : goal.invariant-loop-i
invariant-loop-i l = find (is_met_by_provides_entry (dependency l.dep)) (dependencies_to l.i (entries_in (entry_at_index (info_in_source l.source l.kept.word) 15))) ≡ None
