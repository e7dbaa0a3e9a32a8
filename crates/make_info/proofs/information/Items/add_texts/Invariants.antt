use Rattle.std.proofs.Common.{◌≡◌, length, drop, Some}
use Rattle.std.specs.Prelude.{◌==◌}
use Rattle.std.specs.List.{filter, slice_split}
use Rattle.make_info.specs.Fields.{is_nonempty, nonempty_parts_between_spaces, text_values}
use Rattle.make_info.specs.Information.{items_followed_by_values_of_field}
use Rattle.make_info.proofs.information.Items.add_texts.Given as goal

abbrev pub invariant-loop-part : goal.invariant-loop-part
invariant-loop-part l =
    items_followed_by_values_of_field l.self l.field (Some (text_values (filter is_nonempty (drop (length l.yielded) (slice_split (λ b. b == 32) l.texts))))) ≡ items_followed_by_values_of_field l.initial.self l.field (Some (text_values (nonempty_parts_between_spaces l.texts)))
