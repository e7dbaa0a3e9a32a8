use Rattle.std.proofs.Common.{◌≡◌, ◌++◌}
use Rattle.std.specs.Prelude.{Some, slice_get}
use Rattle.adb_view.specs.Adb.{payload_of}
use Rattle.adb_view.specs.Entries.{array_entries}
use Rattle.adb_schema.specs.adb_fields.Fields.{array_at}
use Rattle.adb_view.specs.Values.{entries_in}
use Rattle.adb_view.specs.declared.tables.Kind.TheVariants as Kinds
use Rattle.adb_view.specs.declared.tables.Which.TheVariants as Tables
use Rattle.candidate_core.specs.CandidateList.{IsCandidateList}
use Rattle.candidate_core.specs.Packages.{candidates_of_packages}
use Rattle.candidate_core.proofs.CandidateLists.{candidates_to}
use Rattle.candidate_core.proofs.candidate_list.CandidateList.push_all.Given as goal

abbrev pub invariant-loop-i : goal.invariant-loop-i
invariant-loop-i l = record {
  list : IsCandidateList l.self;
  source : slice_get l.self.packages.sources.items l.source_place ≡ Some l.source;
  pushed : candidates_of_packages l.self.packages ≡ candidates_of_packages l.fn.self.packages ++ candidates_to l.source l.i (entries_in (array_at (payload_of l.source.adb) (Kinds.Obj Tables.PkgInfo) (array_entries l.packages)));
}
