-- The head of a payload, which is the eight bytes before its values: the compatibility version, three ignored bytes,
-- and the root's word. The rule is in `docs/formats.md`, "Values" ("An ADB payload begins with eight bytes").
use Rattle.std.specs.Prelude.{ℕ, List, length, take, drop, slice_index, Option, Some, None, nat_lt, ◌==◌, if◌then◌else◌}
use Rattle.std.specs.Int.{w32, from_le_bytes}
use Rattle.base_core.specs.declared.cause.Cause.{Cause}
use Rattle.base_core.specs.declared.cause.Cause.TheVariants.{Truncated, CompatVersion}

-- the first fault of a payload's head: fewer than 8 bytes, or another version than 0; None if it is
-- good
abbrev pub payload_head_fault : List ℕ → Option Cause
payload_head_fault payload =
    if nat_lt (length payload) 8 then Some (Truncated 0)
    else if slice_index payload 0 == 0 then None
    else Some CompatVersion

-- the word of a payload's root value, in its bytes 4 to 7
abbrev pub root_word_of_payload : List ℕ → ℕ
root_word_of_payload payload = from_le_bytes w32 (take 4 (drop 4 payload))
