-- What a call that writes to a sink ensures. Serves the contracts of calls that write all of their
-- bytes, as `write_all` does (its row in the README of this crate).
use Rattle.std.specs.Prelude.{ℕ, List, Result, OnOk, OnErr}
use Rattle.base_core.specs.Faults.{FailsWithCause}
use Rattle.base_core.specs.Sink.{SinkBeforeAndAfter, SinkBytesGrowBy, SinkBytesGrowByPrefixOf}

-- a call with this result has written all these bytes to a sink, or, on an error, a prefix of them. `sink` is the sink
-- before and after the call
pub record Writes {T E : Type 0} (bytes : List ℕ) (sink : SinkBeforeAndAfter)
    (result : Result T E) : Type 0 where
  -- on Ok, all bytes were written
  pub ok : OnOk result (SinkBytesGrowBy sink bytes)
  -- on an error, a prefix of the bytes was written
  pub err : OnErr result (SinkBytesGrowByPrefixOf sink bytes)
  -- an error is counted as a fault with its cause; on Ok no fault is counted
  pub cause : FailsWithCause sink.before sink.after result
