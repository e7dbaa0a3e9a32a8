-- The lines of the steps so far are added.
use Rattle.std.proofs.Common.{◌≡◌, take}
use Rattle.std.specs.List.{flat_map}
use Rattle.unmet_world.specs.Lines.{step_lines, with_texts}
use Rattle.unmet_world.proofs.lines.refutation_lines.Given as goal

abbrev pub invariant-loop-step : goal.invariant-loop-step
invariant-loop-step l = l.lines.items ≡ with_texts l.initial.lines.items (flat_map (step_lines l.sources.pool.now l.sources.listed.now l.sources.repositories.now) (take l.step-index l.steps))
