use Rattle.adb_view.specs.Readers.{ARRAY, OBJECT}
use Rattle.adb_write.specs.Canonical.{int_cell, blob_cell, array_or_object_cell, words_without_last_nulls}
use Rattle.adb_write.proofs.AnyOrder.{stays}
use Rattle.adb_write.proofs.laws.a_word_keeps_its_value.Goals as goal

pub returns : goal.returns
returns c = record {
  int = λ n. stays (int_cell n);
  blob = λ b. stays (blob_cell b);
  arr = λ ws. stays (array_or_object_cell ARRAY ws);
  obj = λ ws. stays (array_or_object_cell OBJECT (words_without_last_nulls ws));
}
