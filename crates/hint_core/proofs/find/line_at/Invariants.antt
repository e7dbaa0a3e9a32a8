use Rattle.std.proofs.Common.{◌≡◌, length, drop}
use Rattle.std.specs.List.{slice_get}
use Rattle.dep_core.specs.World.{lines_of}
use Rattle.hint_core.proofs.find.line_at.Given as goal

-- it is after so many of the lines that are left
abbrev pub invariant-loop-line : goal.invariant-loop-line
invariant-loop-line l =
    slice_get (drop (length l.yielded) (lines_of l.text)) l.left ≡ slice_get (lines_of l.text) l.before
