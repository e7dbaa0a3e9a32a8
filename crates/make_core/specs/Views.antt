-- What the program's entries of an index denote.
-- No document has a rule for this: it serves the contracts of `src/indexes/entry.rt` and
-- `src/indexes/index.rt`.
use Rattle.std.specs.Prelude.{List, Vec, map}
use Rattle.std.specs.declared.alloc.Global.{Global}
use Rattle.adb_view.specs.Plain.{Plain}
use Rattle.make_core.specs.Kept.{entry_of_source}
use Rattle.make_core.specs.declared.indexes.entry.Entry.{Entry}

-- the plain value of an entry, as it is written
abbrev pub entry_view : Entry → Plain
entry_view entry = entry_of_source entry.source

-- the plain values of entries, in their order
abbrev pub entries_view : Vec Entry Global → List Plain
entries_view entries = map entry_view entries.items
