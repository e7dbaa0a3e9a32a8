-- The lines so far are printed.
use Rattle.std.proofs.Common.{◌≡◌, ◌++◌, take}
use Rattle.std.specs.List.{flat_map}
use Rattle.unmet_world.specs.Lines.{printed_line}
use Rattle.unmet_world.proofs.lines.add_all_printed.Given as goal

abbrev pub invariant-loop-line : goal.invariant-loop-line
invariant-loop-line l = l.text.items ≡ l.initial.text.items ++ flat_map printed_line (take l.line-index l.lines)
