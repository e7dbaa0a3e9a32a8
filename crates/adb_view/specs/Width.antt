-- The widths of the numbers in a payload. Serves the contracts of `src/words.rt`; the widths are in the
-- table of `docs/formats.md`, "Values".
use Rattle.std.specs.Int.{w8, w16, w32, w64}
use Rattle.std.specs.Int as I
use Rattle.adb_view.specs.declared.words.Width.{Width}
use Rattle.adb_view.specs.declared.words.Width.TheVariants.{One, Two, Four, Eight}

-- the width of the standard library that has as many bytes as this width of the program
abbrev pub width_of : Width → I.Width
width_of One = w8
width_of Two = w16
width_of Four = w32
width_of Eight = w64
