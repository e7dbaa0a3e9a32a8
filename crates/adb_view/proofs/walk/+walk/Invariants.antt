use Rattle.std.proofs.Common.{◌≡◌, ◌+◌, ◌≤◌, drop, ◌*◌}
use Rattle.adb_view.specs.Adb.{payload_of}
use Rattle.adb_view.specs.Entries.{array_entries}
use Rattle.adb_view.specs.Schema.{shape_of, shapes_of}
use Rattle.adb_view.specs.Rank.{rank, rank_of_all}
use Rattle.adb_view.specs.Visits.{MOST_VALUES}
use Rattle.adb_view.specs.CountedWalk.{fields_walk}
use Rattle.adb_view.specs.CountedWalk.{walk}
use Rattle.adb_view.specs.CountedWalk.{walk_each_word}
use Rattle.adb_view.specs.declared.tables.Kind.TheVariants as Kinds
use Rattle.adb_view.proofs.walk.+walk.Given as goal

abbrev pub decreases-walk_value : goal.decreases-walk_value
decreases-walk_value l = 4 * rank l.kind + 1

abbrev pub decreases-walk_texts : goal.decreases-walk_texts
decreases-walk_texts l = 2

abbrev pub decreases-walk_objects : goal.decreases-walk_objects
decreases-walk_objects l = 4 * rank (Kinds.Obj l.which) + 1

abbrev pub decreases-walk_object : goal.decreases-walk_object
decreases-walk_object l = 4 * rank (Kinds.Obj l.which)

abbrev pub decreases-walk_each_field : goal.decreases-walk_each_field
decreases-walk_each_field l = 4 * rank_of_all l.fields.now + 3

abbrev pub decreases-walk_fields_from : goal.decreases-walk_fields_from
decreases-walk_fields_from l = 4 * rank_of_all l.fields.now + 2

abbrev pub invariant-walk_texts-loop-i : goal.invariant-walk_texts-loop-i
invariant-walk_texts-loop-i l = record {
  so_far : walk_each_word (walk (payload_of l.adb) (shape_of Kinds.Text)) l.count (drop l.i (array_entries l.texts)) ≡ walk_each_word (walk (payload_of l.adb) (shape_of Kinds.Text)) l.fn.before (array_entries l.texts);
  bound : l.count ≤ MOST_VALUES;
}

abbrev pub invariant-walk_objects-loop-i : goal.invariant-walk_objects-loop-i
invariant-walk_objects-loop-i l = record {
  so_far : walk_each_word (walk (payload_of l.adb) (shape_of (Kinds.Obj l.which))) l.count (drop l.i (array_entries l.objects)) ≡ walk_each_word (walk (payload_of l.adb) (shape_of (Kinds.Obj l.which))) l.fn.before (array_entries l.objects);
  bound : l.count ≤ MOST_VALUES;
}

abbrev pub invariant-walk_fields_from-loop-i : goal.invariant-walk_fields_from-loop-i
invariant-walk_fields_from-loop-i l = record {
  so_far : fields_walk (payload_of l.adb) (shapes_of (drop l.i l.fields)) l.count (drop l.i (array_entries l.entries)) ≡ fields_walk (payload_of l.adb) (shapes_of (drop l.fn.from l.fields)) l.fn.before (drop l.fn.from (array_entries l.entries));
  bound : l.count ≤ MOST_VALUES;
}
