-- The places so far answer the questions so far.
use Rattle.std.proofs.Common.{◌≡◌, ℕ, take}
use Rattle.std.specs.Prelude.{◌==◌, Some, slice_get}
use Rattle.std.specs.List.{list_any}
use Rattle.adb_view.specs.Adb.{payload_of}
use Rattle.db_core.specs.Members.{Member}
use Rattle.db_core.specs.Seen.{members_of}
use Rattle.file_owners.specs.Questions.{question_names_package}
use Rattle.file_owners.proofs.questions.places_asked.Given as goal

abbrev pub invariant-loop-i : goal.invariant-loop-i
invariant-loop-i l =
    (y : ℕ) (m : Member) → slice_get (members_of l.members) y ≡ Some m
    → list_any (λ place. place == y) l.places.items ≡ list_any (question_names_package (payload_of l.adb) y m.pkg) (take l.i l.questions)
