use Rattle.std.proofs.Common.{◌≡◌, drop}
use Rattle.std.specs.Prelude.{◌&&◌}
use Rattle.std.specs.List.{list_all}
use Rattle.adb_dump.specs.Dump.{is_printable}
use Rattle.adb_dump.proofs.line.is_window_printable.Given as goal

abbrev pub invariant-loop-byte : goal.invariant-loop-byte
invariant-loop-byte l = list_all is_printable l.window ≡ (l.all && list_all is_printable (drop l.byte-index l.window))
