use Rattle.std.proofs.Common.{◌≡◌, ◌-◌}
use Rattle.adb_dump.specs.Margin.{margin}
use Rattle.adb_dump.specs.ReadBack.{strip_prefix}
use Rattle.gen_core.proofs.cursor.without_levels.Given as goal

-- what is left of the line is without its other levels what the line is without all
abbrev pub invariant-loop-level : goal.invariant-loop-level
invariant-loop-level l = strip_prefix (margin (l.levels - l._level)) l.inner ≡ strip_prefix (margin l.levels) l.line
