use Rattle.std.proofs.Common.{◌≡◌, ◌+◌, length, drop}
use Rattle.dep_core.specs.World.{lines_of}
use Rattle.hint_core.specs.Repositories.{repository_at}
use Rattle.hint_core.proofs.find.repository_at.Given as goal

-- the lines that are left name it, by the number that is left
abbrev pub invariant-loop-part : goal.invariant-loop-part
invariant-loop-part l =
    (l.line ≡ length l.yielded)
    × (repository_at l.left (l.line + 1) (drop (length l.yielded) (lines_of l.text)) ≡ repository_at l.number 1 (lines_of l.text))
