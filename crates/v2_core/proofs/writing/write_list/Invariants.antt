use Rattle.std.proofs.Common.{◌≡◌, drop}
use Rattle.v2_core.proofs.ListValues.{plains_of_lines}
use Rattle.make_info.proofs.Mapped.{with_list}
use Rattle.v2_core.proofs.writing.write_list.Given as goal

-- with what the lines that are left say it has all
abbrev pub invariant-loop-line : goal.invariant-loop-line
invariant-loop-line l = with_list (plains_of_lines l.field (drop l.line-index l.info)) l.draft ≡ with_list (plains_of_lines l.field l.info) l.initial.draft
