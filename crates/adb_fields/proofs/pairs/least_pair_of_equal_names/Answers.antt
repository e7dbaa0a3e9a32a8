-- Neighbours of the sorted list have the first pair.
use Rattle.std.proofs.Common.{◌≡◌, ap, ◌∙◌, rules}
use Rattle.std.specs.Ordering.{is_lt}
use Rattle.std.proofs.lemmas.List.Sorted.{answers_always}
use Rattle.adb_fields.specs.NamedTexts.{joined_name_with_position, name_with_position_cmp}
use Rattle.adb_fields.proofs.FirstPair.{first_in_sorted, named_order}
use Rattle.adb_fields.proofs.pairs.least_pair_of_equal_names.Goals as goal

pub returns : goal.returns
returns c =
    c.first_of_neighbours.ensures
    ∙ first_in_sorted joined_name_with_position c.args.entries.now c.sort_unstable_by.new.self c.sort_unstable_by.ensures.permutation
    (c.sort_unstable_by.ensures.sorted _ (named_order joined_name_with_position) (answers_always _ _ _ (λ f a r f' k. let h : r ≡ name_with_position_cmp (joined_name_with_position a.0.now) (joined_name_with_position a.1.0.now) = search rules in ap is_lt h)))
