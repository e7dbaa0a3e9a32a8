use Rattle.std.proofs.Common.{◌≡◌, ◌++◌, take}
use Rattle.hint_core.specs.Lines.{printed_bytes}
use Rattle.hint_core.proofs.printed.push_printed.Given as goal

-- the bytes so far are shown
abbrev pub invariant-loop-byte : goal.invariant-loop-byte
invariant-loop-byte l = l.text.items ≡ l.fn.text.items ++ printed_bytes (take l.byte-index l.bytes)
