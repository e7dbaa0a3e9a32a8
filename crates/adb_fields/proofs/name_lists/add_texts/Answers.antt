-- One text more, and none after the last.
use Rattle.std.proofs.Common.{arith}
use Rattle.std.specs.Vec.{vec_len}
use Rattle.adb_view.specs.Adb.{payload_of}
use Rattle.adb_view.specs.Entries.{array_entries}
use Rattle.adb_view.specs.Values.{text_in}
use Rattle.adb_view.specs.declared.tables.Kind.TheVariants as Kinds
use Rattle.adb_fields.proofs.NameLists.{one_word, no_word}
use Rattle.adb_fields.proofs.name_lists.add_texts.Goals as goal

pub loop-i-preserved : goal.loop-i-preserved
loop-i-preserved c =
    (grind arith, one_word (payload_of c.args.adb) Kinds.Text text_in (array_entries c.args.texts) c.loop-i.i (vec_len c.loop-i.names) _ c.entry_word.result _ _ _ _ c.requires.sound (grind arith) c.entry_word.ensures c.text_word.ensures c.in_ok-add.ensures.added c.in_ok-add.ensures.len c.loop-i.invariant.1)

pub returns : goal.returns
returns c = record {
  added = no_word (payload_of c.args.adb) Kinds.Text text_in (array_entries c.args.texts) c.loop-i.i _ _ _ c.requires.sound (grind arith) c.loop-i.invariant.1;
  len = grind arith;
}
