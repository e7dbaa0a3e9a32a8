use Rattle.make_core.proofs.adb_copy.WithoutZeros.{int_zeros, text_zeros}
use Rattle.make_core.proofs.adb_copy.Entries.{entry_zeros}
use Rattle.definition_laws.proofs.making.EntryFields.{none_zero}
use Rattle.definition_laws.proofs.making.values.values_without_zeros_tell_the_same.Goals as goal

pub returns : goal.returns
returns c = record { number = int_zeros; text = text_zeros; entries = entry_zeros; none_zero = none_zero }
