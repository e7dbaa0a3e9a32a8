-- The result of a writer of values. Its limits are in `docs/formats.md`, "Canonical layout" ("A payload
-- has at most").
use Rattle.std.specs.Prelude.{◌≡◌, ℕ, List, Result, Ok, Err}
use Rattle.adb_write.specs.Canonical.{ByteAndValueCounts}
use Rattle.adb_write.specs.declared.writer.WriteFault.{WriteFault}
use Rattle.adb_write.specs.declared.writer.WriteFault.TheVariants.{TooLarge, Memory}

-- a function that writes a value ends as the definition says (`wanted`): with the payload, of which `view` is the list
-- of bytes, or with the counts at which the value overflows. Running out of memory is always allowed
abbrev pub IsWrittenAs :
    {A : Type 0} → (A → List ℕ) → Result A WriteFault → Result (List ℕ) ByteAndValueCounts → Type 0
IsWrittenAs view (Ok x) wanted = wanted ≡ Ok (view x)
IsWrittenAs view (Err (TooLarge bytes values)) wanted = wanted ≡ Err (bytes, values)
IsWrittenAs view (Err Memory) wanted = Unit {0}
