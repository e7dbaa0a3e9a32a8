-- The first of the pairs passed and of those to come is the first of all.
use Rattle.std.proofs.Common.{◌≡◌, ◌≤◌, ◌-◌, map, drop}
use Rattle.adb_fields.specs.Pairs.{least_pair, lesser_pair}
use Rattle.adb_fields.specs.NamedTexts.{joined_name_with_position, neighbours}
use Rattle.adb_fields.proofs.pairs.first_of_neighbours.Given as goal

abbrev pub invariant-loop-i : goal.invariant-loop-i
invariant-loop-i l = (1 ≤ l.i) × (lesser_pair l.first (least_pair (neighbours (map joined_name_with_position (drop (l.i - 1) l.entries)))) ≡ least_pair (neighbours (map joined_name_with_position l.entries)))
