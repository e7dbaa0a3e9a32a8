use Rattle.std.proofs.Common.{◌≡◌, drop}
use Rattle.adb_values.specs.Drafts.{draft_with_all}
use Rattle.adb_view.specs.Plain.{plains_of_texts}
use Rattle.journal_intent.proofs.container.write_names.Given as goal

-- with those that are left it has all
abbrev pub invariant-loop-i : goal.invariant-loop-i
invariant-loop-i l = draft_with_all (plains_of_texts (drop l.i l.names)) l.draft ≡ draft_with_all (plains_of_texts l.names) l.initial.draft
