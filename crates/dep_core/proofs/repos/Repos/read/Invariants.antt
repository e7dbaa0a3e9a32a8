use Rattle.std.proofs.Common.{◌≡◌, ◌+◌, length, drop, Some}
use Rattle.dep_core.specs.World.{lines_of}
use Rattle.dep_core.specs.Repositories.{with_repositories_of_line, repositories_from, repositories_of}
use Rattle.dep_core.proofs.repos.Repos.read.Given as goal

abbrev pub invariant-loop-text : goal.invariant-loop-text
invariant-loop-text l =
    (l.line ≡ length l.yielded)
    × (with_repositories_of_line l.line (Some l.repos.items) (repositories_from (l.line + 1) (drop (length l.yielded) (lines_of l.bytes))) ≡ repositories_of l.bytes)
