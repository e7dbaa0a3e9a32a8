-- What a call appends to an output: to a report, or to a count of its bytes. No rule of a document: serves the
-- contracts of `src/report_out.rt`, by which one function writes a report or counts its bytes.
use Rattle.std.specs.Prelude.{ℕ, List, ◌++◌}

-- a call appends these bytes to an output. `holds` says which bytes an output may have: if the output `old` may have
-- some bytes, the output `new` may have those bytes, followed by the appended ones
abbrev pub Appends : {O : Type 0} → (O → List ℕ → Type 0) → O → O → List ℕ → Type 0
Appends holds old new bytes = (before : List ℕ) → holds old before → holds new (before ++ bytes)
