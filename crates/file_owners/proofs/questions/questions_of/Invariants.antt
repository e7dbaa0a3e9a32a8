-- The questions so far, and the entries that are left, make up all that is asked.
use Rattle.std.specs.Prelude.{All}
use Rattle.path_claims.specs.adb_fields.Fields.{array_at}
use Rattle.adb_view.specs.Values.{entries_in}
use Rattle.adb_view.specs.declared.tables.Kind.TheVariants as Kinds
use Rattle.adb_view.specs.declared.tables.Which.TheVariants as Tables
use Rattle.adb_view.specs.Adb.{payload_of}
use Rattle.adb_view.specs.Entries.{array_entries}
use Rattle.db_core.specs.Seen.{members_of}
use Rattle.file_owners.specs.Questions.{IsQuestionIn}
use Rattle.file_owners.proofs.AskedQuestions.{AreAskedSoFar}
use Rattle.file_owners.proofs.questions.questions_of.Given as goal

abbrev pub invariant-loop-i : goal.invariant-loop-i
invariant-loop-i l = record {
  asked : AreAskedSoFar (payload_of l.adb) (members_of l.members) l.questions.items (entries_in (array_at (payload_of l.adb) (Kinds.Obj Tables.Dep) (array_entries l.entries))) l.i;
  each : All (IsQuestionIn (members_of l.members) (payload_of l.adb)) l.questions.items;
}
