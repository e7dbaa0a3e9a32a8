-- The draft (a payload that is being written) while a text is read.
-- It serves the contracts of `read`; the order of what is reported is defined in `docs/formats.md`,
-- "Text database of version 2".
use Rattle.std.specs.Prelude.{◌≡◌, ℕ, ⊤, List, map, Result, Ok, Err}
use Rattle.make_info.specs.adb_values.Drafts.{DraftState, draft_with, draft_with_all}
use Rattle.base_core.specs.declared.cause.Cause.TheVariants.{TextLine}
use Rattle.make_info.specs.Values.{plains_of_list}
use Rattle.v2_core.specs.declared.read.V2Fault.{V2Fault}
use Rattle.v2_core.specs.declared.read.V2Fault.TheVariants.{Bad, TooLarge, Memory}
use Rattle.v2_core.specs.Database.{database_value_of_records, record_value}
use Rattle.v2_core.specs.Records.{Record}

-- a draft with the package of each record that is read, or the first bad line
abbrev pub draft_with_records : Result (List Record) ℕ → DraftState → Result DraftState ℕ
draft_with_records (Ok records) d = Ok (draft_with_all (plains_of_list (map record_value records)) d)
draft_with_records (Err line) d = Err line

-- a draft with the database of the records that are read, or the first bad line
abbrev pub draft_with_database : Result (List Record) ℕ → DraftState → Result DraftState ℕ
draft_with_database (Ok records) d = Ok (draft_with (database_value_of_records records) d)
draft_with_database (Err line) d = Err line

-- a fault of reading the lines of a text: a bad line is that of the result `read`, and out of memory may occur at
-- any line. A limit is reported only at the end of the text
abbrev pub IsLineFault : V2Fault → Result (List Record) ℕ → Type 0
IsLineFault (Bad cause) read = (line : ℕ) × (cause ≡ TextLine line) × (read ≡ Err line)
IsLineFault (TooLarge bytes values) read = ⊥
IsLineFault Memory read = ⊤
