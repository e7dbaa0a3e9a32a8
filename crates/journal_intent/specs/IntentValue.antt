-- The plain value of an intent, as in its container.
-- The rule is in `docs/formats.md`, "Schemas", table 10.
use Rattle.std.specs.Prelude.{ℕ, List}
use Rattle.adb_view.specs.Plain.{Plain, Plains, none, more, array_or_null, trimmed_object_or_null, plains_of_texts}
use Rattle.journal_intent.specs.Intent.{Intent}

-- the plain value that encodes an intent: an object of two arrays, its removals and its writes
abbrev pub value_of_intent : Intent → Plain
value_of_intent intent =
    trimmed_object_or_null (more (array_or_null (plains_of_texts intent.removals))
    (more (array_or_null (plains_of_texts intent.writes)) none))

-- the intent with these removals and writes
abbrev pub intent_of_lists : List (List ℕ) → List (List ℕ) → Intent
intent_of_lists removals writes = record { removals = removals; writes = writes }
