-- The bytes of an output, and remembered lengths of texts. No rule of a document: serves the contracts
-- of `src/text_out.rt`, by which one function both writes a text and counts it.
use Rattle.std.specs.Prelude.{◌≡◌, ℕ, List, ◌++◌, length, Some}
use Rattle.std.specs.BTreeMap.{BTreeMap, get}
use Rattle.std.specs.Ordering.{nat_cmp}
use Rattle.adb_view.specs.Values.{text_in, value_at}
use Rattle.adb_view.specs.declared.tables.Kind.TheVariants.{Text}
use Rattle.adb_dump.specs.Dump.{bare_or_quoted_text}

-- a call appends `bytes` to an output: whatever was written to the output before, `bytes` are added. `old` and `new`
-- are the output before and after the call, and `holds` says which bytes were written to an output
abbrev pub Puts : {O : Type 0} → (O → List ℕ → Type 0) → O → O → List ℕ → Type 0
Puts holds old new bytes = (before : List ℕ) → holds old before → holds new (before ++ bytes)

-- a call appends `bytes` to an output, whatever payload the texts are of, which were written to the output
abbrev pub PutsForAnyPayload : {O : Type 0} → (List ℕ → O → List ℕ → Type 0) → O → O → List ℕ → Type 0
PutsForAnyPayload holds old new bytes = (payload : List ℕ) → Puts (holds payload) old new bytes

-- each length in `lens`, which is remembered for a word, is that of the word's text as it is written in a line
abbrev pub AreLineLengths : List ℕ → BTreeMap ℕ ℕ → Type 0
AreLineLengths payload lens = (word len : ℕ) → get nat_cmp lens word ≡ Some len
    → len ≡ length (bare_or_quoted_text (text_in (value_at payload Text word)))

-- remembered lengths that were right for a payload before a call (`old`) are right after the call (`new`), if the
-- payload has the text `text` for the word
abbrev pub KeepLineLengths : BTreeMap ℕ ℕ → BTreeMap ℕ ℕ → ℕ → List ℕ → Type 0
KeepLineLengths old new word text = (payload : List ℕ)
    → text ≡ text_in (value_at payload Text word)
    → AreLineLengths payload old → AreLineLengths payload new
