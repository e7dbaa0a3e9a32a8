use Rattle.std.proofs.Common.{◌≡◌, map, take}
use Rattle.dep_core.specs.Meets.{dependency}
use Rattle.pool_core.specs.Marks.{is_affected, with_marks_set}
use Rattle.option_ranks.specs.candidate_core.Packages.{candidates_of_packages}
use Rattle.pool_core.proofs.marks.mark_affected.Given as goal

abbrev pub invariant-loop-entry : goal.invariant-loop-entry
invariant-loop-entry l =
    l.marks.items ≡ with_marks_set (is_affected l.effect (map dependency (take l.entry-index l.entries))) l.initial.marks.items (candidates_of_packages l.packages)
