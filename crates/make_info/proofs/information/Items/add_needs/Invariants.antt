use Rattle.std.proofs.Common.{◌≡◌, length, drop}
use Rattle.std.specs.Prelude.{◌==◌}
use Rattle.std.specs.List.{filter, slice_split}
use Rattle.make_info.specs.Fields.{is_nonempty, dependency_values_of_parts, nonempty_parts_between_spaces}
use Rattle.make_info.specs.Information.{items_followed_by_values_of_field}
use Rattle.make_info.proofs.information.Items.add_needs.Given as goal

abbrev pub invariant-loop-part : goal.invariant-loop-part
invariant-loop-part l =
    items_followed_by_values_of_field l.self l.field (dependency_values_of_parts (filter is_nonempty (drop (length l.yielded) (slice_split (λ b. b == 32) l.texts)))) ≡ items_followed_by_values_of_field l.initial.self l.field (dependency_values_of_parts (nonempty_parts_between_spaces l.texts))
