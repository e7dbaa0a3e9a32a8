use Rattle.make_core.proofs.IndexHeld.{entry_of_normal, entry_of_shape, entry_of_version}
use Rattle.make_core.proofs.indexes.index.an_entry_is_an_info.Goals as goal

pub returns : goal.returns
returns c = record { shape = entry_of_shape c.values_have_their_shape.ensures.word; normal = entry_of_normal c.values_are_normal.ensures; version = entry_of_version c.sound_containers_hold_sound_values.ensures.value }
