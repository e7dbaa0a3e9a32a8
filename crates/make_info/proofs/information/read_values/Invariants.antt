use Rattle.std.proofs.Common.{drop}
use Rattle.make_info.specs.FieldTexts.{values_of_info_options}
use Rattle.make_info.proofs.Reading.{IsReadTo}
use Rattle.make_info.proofs.information.read_values.Given as goal

abbrev pub invariant-loop-i : goal.invariant-loop-i
invariant-loop-i l = IsReadTo l.too_long (values_of_info_options l.values) (values_of_info_options (drop l.i l.values)) l.entries
