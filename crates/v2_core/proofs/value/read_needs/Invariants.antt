use Rattle.std.proofs.Common.{◌≡◌, length, drop}
use Rattle.std.specs.Prelude.{◌==◌}
use Rattle.std.specs.List.{filter, slice_split}
use Rattle.make_info.specs.Fields.{is_nonempty, dependency_values_of_parts, nonempty_parts_between_spaces}
use Rattle.v2_core.specs.InfoValues.{with_needs}
use Rattle.v2_core.specs.Views.{needs_view}
use Rattle.v2_core.proofs.value.read_needs.Given as goal

abbrev pub invariant-loop-part : goal.invariant-loop-part
invariant-loop-part l =
    with_needs (needs_view l.needs) (dependency_values_of_parts (filter is_nonempty (drop (length l.yielded) (slice_split (λ b. b == 32) l.text)))) ≡ dependency_values_of_parts (nonempty_parts_between_spaces l.text)
