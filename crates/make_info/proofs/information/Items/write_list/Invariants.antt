use Rattle.std.proofs.Common.{◌≡◌, drop}
use Rattle.adb_values.specs.Drafts.{draft_with_all}
use Rattle.make_info.proofs.Written.{said_by}
use Rattle.make_info.proofs.information.Items.write_list.Given as goal

-- with what is left it has all
abbrev pub invariant-loop-entry : goal.invariant-loop-entry
invariant-loop-entry l = draft_with_all (said_by l.field (drop l.entry-index l.entry-items)) l.draft ≡ draft_with_all (said_by l.field l.entry-items) l.initial.draft
