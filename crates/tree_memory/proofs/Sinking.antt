-- What the counts of a sink in memory say of each refused write.
use Rattle.std.proofs.Common.{◌≡◌, inl, inr, ℕ, ◌≤◌, List, Err, ap, arith, is_some, refl}
use Rattle.base_core.specs.Faults.{FailsWithCause, saturating_increment}
use Rattle.tree_memory.specs.Sink.{SinkState, sink_counts, WritesToFullSink, IsOutOfMemory}

pub full_cause : {T E : Type 0} (old new : SinkState) (piece : List ℕ) (e : E) → WritesToFullSink old piece new → old.faults ≤ new.faults → FailsWithCause {T = T} (sink_counts old) (sink_counts new) (Err e)
full_cause old new piece e full later =
    let room : new.room ≡ old.room = ap (λ (s : SinkState). s.room) full.counted in
    let faults : new.faults ≡ saturating_increment old.faults = ap (λ (s : SinkState). s.faults) full.counted in
    let memory_faults : new.memory_faults ≡ old.memory_faults = ap (λ (s : SinkState). s.memory_faults) full.counted in record {
      goes_on = record { faults = later; misuses = omega arith; memory_faults = omega (arith, memory_faults); fallible = λ _. ap is_some full.full };
      cause = record { fault = omega (arith, faults); reason = inl (ap is_some full.full) };
      kept = tt;
      proper = refl;
    }

pub want_cause : {T E : Type 0} (old new : SinkState) (piece : List ℕ) (e : E) → IsOutOfMemory old piece new → old.faults ≤ new.faults → old.memory_faults ≤ new.memory_faults → FailsWithCause {T = T} (sink_counts old) (sink_counts new) (Err e)
want_cause old new piece e want later more =
    let room : new.room ≡ old.room = ap (λ (s : SinkState). s.room) want.counted in
    let faults : new.faults ≡ saturating_increment old.faults = ap (λ (s : SinkState). s.faults) want.counted in
    let memory_faults : new.memory_faults ≡ saturating_increment old.memory_faults = ap (λ (s : SinkState). s.memory_faults) want.counted in record {
      goes_on = record { faults = later; misuses = omega arith; memory_faults = more; fallible = λ may. cc (may, ap is_some room) };
      cause = record { fault = omega (arith, faults); reason = inr (inr (omega (arith, memory_faults))) };
      kept = tt;
      proper = refl;
    }
