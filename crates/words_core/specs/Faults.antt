-- The meaning of the reader's errors. The rule of the place is in `docs/commands.md`, "Words", after
-- the table of options; that memory is needed only after the applet is a promise of `read_words` alone,
-- as the README says.
use Rattle.std.specs.Prelude.{◌≡◌, ℕ, Result, Err, IsTrue}
use Rattle.std.specs.Result.{is_ok}
use Rattle.command_core.specs.Command.{CommandLine}
use Rattle.words_core.specs.declared.read.WordsFault.{WordsFault}
use Rattle.words_core.specs.declared.read.WordsFault.TheVariants.{Usage, Memory}
use Rattle.words_core.specs.declared.reading.Start.{Start}

-- a usage error is at the first wrong place; out of memory says nothing of the words
abbrev pub IsWordsFault : WordsFault → Result CommandLine ℕ → Type 0
IsWordsFault (Usage place) command = command ≡ Err place
IsWordsFault Memory command = Unit {0}

-- out of memory is answered only if the applet was found, with its own options before it
abbrev pub HasStartIfOutOfMemory : WordsFault → Result Start ℕ → Type 0
HasStartIfOutOfMemory (Usage place) start = Unit {0}
HasStartIfOutOfMemory Memory start = IsTrue (is_ok start)
