use Rattle.std.proofs.Common.{◌≡◌, drop, map}
use Rattle.make_info.proofs.Mapped.{with_list}
use Rattle.make_core.specs.Views.{entry_view}
use Rattle.make_core.proofs.indexes.index.write_entries.Given as goal

-- with those that are left it has all
abbrev pub invariant-loop-entry : goal.invariant-loop-entry
invariant-loop-entry l = with_list (map entry_view (drop l.entry-index l.entries)) l.draft ≡ with_list (map entry_view l.entries) l.initial.draft
