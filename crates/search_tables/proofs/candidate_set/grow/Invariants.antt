use Rattle.std.proofs.Common.{◌≡◌, ◌-◌, ◌+◌, ℕ, false, vec_len}
use Rattle.std.specs.Prelude.{slice_index_or}
use Rattle.search_tables.proofs.candidate_set.grow.Given as goal

abbrev pub invariant-loop-marks : goal.invariant-loop-marks
invariant-loop-marks l = (c : ℕ) → slice_index_or l.marks.items c false ≡ slice_index_or l.initial.marks.items c false

abbrev pub decreases-loop-marks : goal.decreases-loop-marks
decreases-loop-marks l = l.place + 1 - vec_len l.marks
