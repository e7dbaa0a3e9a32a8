-- One package more, and none after the last.
use Rattle.std.proofs.Common.{arith}
use Rattle.adb_view.specs.Adb.{payload_of}
use Rattle.adb_view.specs.Entries.{array_entries}
use Rattle.adb_fields.specs.Repeated.{paths_of_package_files}
use Rattle.adb_view.specs.declared.tables.Kind.TheVariants as Kinds
use Rattle.adb_view.specs.declared.tables.Which.TheVariants as Tables
use Rattle.adb_fields.proofs.NameLists.{one_list, no_list}
use Rattle.adb_fields.proofs.name_lists.all_paths.Goals as goal

pub loop-i-preserved : goal.loop-i-preserved
loop-i-preserved c = one_list (payload_of c.args.adb) (Kinds.Obj Tables.Package) paths_of_package_files (array_entries c.args.packages) c.loop-i.i c.entry_word.result _ _ _ c.requires (grind arith) c.entry_word.ensures c.in_ok-add_paths.ensures c.loop-i.invariant

pub returns : goal.returns
returns c = no_list (payload_of c.args.adb) (Kinds.Obj Tables.Package) paths_of_package_files (array_entries c.args.packages) c.loop-i.i _ _ _ c.requires (grind arith) c.loop-i.invariant
