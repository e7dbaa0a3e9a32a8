-- A sink in memory, and how a write changes it.
-- The rules are in `docs/crash-safety.md`, "Misuses, faults and counts", for the counts of a sink;
-- those of `fail_after` and `take_at_most` are in the README of this crate.
use Rattle.std.specs.Prelude.{◌≡◌, ◌⊎◌, ℕ, ◌-◌, ◌<◌, min, max, List, [], ◌++◌, length, take, Option, Some, None, is_some}
use Rattle.std.specs.Option.{option_map}
use Rattle.base_core.specs.Faults.{Counts, saturating_increment}

-- a sink in memory: its bytes, how many more bytes it takes, the limit of one write, and how many of its writes failed
pub record SinkState : Type 0 where
  -- all bytes that were written
  pub bytes : List ℕ
  -- how many more bytes the sink takes, if its end is planned
  pub room : Option ℕ
  -- how many bytes a write takes at most, if a limit is planned
  pub most : Option ℕ
  -- how many writes failed
  pub faults : ℕ
  -- how many writes failed because the sink was out of memory
  pub memory_faults : ℕ

-- an empty sink without a planned end
abbrev pub new_sink : SinkState
new_sink = record { bytes = []; room = None; most = None; faults = 0; memory_faults = 0 }

-- the counts of a sink: it may fail for an outside reason (`fallible`) only if an end is planned
abbrev pub sink_counts : SinkState → Counts
sink_counts sink = record {
  faults = sink.faults;
  misuses = 0;
  memory_faults = sink.memory_faults;
  fallible =
      is_some sink.room;
}

-- how many of `len` bytes fit into the room that is left (first argument); all of them if no end is planned
abbrev pub len_that_fits : Option ℕ → ℕ → ℕ
len_that_fits None len = len
len_that_fits (Some room) len = min len room

-- how many of `len` bytes a write takes, by the planned limit (first argument). A limit of 0 counts as 1, so that
-- a write takes at least one byte if there is one
abbrev pub len_within_write_limit : Option ℕ → ℕ → ℕ
len_within_write_limit None len = len
len_within_write_limit (Some n) len = min len (max n 1)

-- how many bytes of a piece a write takes: all that fit into the room, but at most the limit of a write
abbrev pub accepted_len : SinkState → List ℕ → ℕ
accepted_len sink piece = len_within_write_limit sink.most (len_that_fits sink.room (length piece))

-- a write takes the first `n` bytes of the piece, as many as the sink accepts: `old` is the sink before, `new` after it
pub record Takes (old : SinkState) (piece : List ℕ) (n : ℕ) (new : SinkState) : Type 0 where
  -- the write takes as many bytes as the sink accepts
  pub taken : n ≡ accepted_len old piece
  -- the first n bytes of the piece are added, the room is n bytes less, and nothing else changes
  pub left : new ≡ record old {
    bytes = old.bytes ++ take n piece;
    room =
        option_map (λ room. room - n) old.room;
  }

-- a write of at least one byte fails because no room is left
pub record WritesToFullSink (old : SinkState) (piece : List ℕ) (new : SinkState) : Type 0 where
  -- the piece has at least one byte
  pub some : 0 < length piece
  -- no room is left
  pub full : old.room ≡ Some 0
  -- one more fault is counted, and nothing else changes
  pub counted : new ≡ record old { faults = saturating_increment old.faults }

-- a write of at least one byte that fits fails because the sink is out of memory
pub record IsOutOfMemory (old : SinkState) (piece : List ℕ) (new : SinkState) : Type 0 where
  -- at least one byte of the piece fits
  pub some : 0 < accepted_len old piece
  -- one more fault and one more lack of memory are counted, and nothing else changes
  pub counted : new ≡ record old {
    faults = saturating_increment old.faults;
    memory_faults = saturating_increment
        old.memory_faults;
  }

-- a write that fails: there is no room, or the sink is out of memory
abbrev pub Refuses : SinkState → List ℕ → SinkState → Type 0
Refuses old piece new = WritesToFullSink old piece new ⊎ IsOutOfMemory old piece new
