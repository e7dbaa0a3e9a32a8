-- The counts of a tree in memory, and how a call changes them.
-- The rules are in `docs/crash-safety.md`, "Misuses, faults and counts". The contracts
-- of `src/calls.rt` use these definitions.
use Rattle.std.specs.Prelude.{◌≤◌, Bool, true, false}
use Rattle.base_core.specs.Faults.{saturating_increment}
use Rattle.tree_memory.specs.declared.calls.Tally.{Tally}

-- the counts before the first call
abbrev pub no_calls : Tally
no_calls = record { calls = 0; writes = 0; faults = 0; misuses = 0; memory_faults = 0 }

-- the counts with one more call; no count exceeds 2^64 - 1
abbrev pub with_call : Tally → Tally
with_call t = record t { calls = saturating_increment t.calls }

-- the counts after a failed call: one more fault, up to 2^64 - 1
abbrev pub with_fault : Tally → Tally
with_fault t = record t { faults = saturating_increment t.faults }

-- the counts if the call was a misuse, which always fails: one more fault, and one more misuse
abbrev pub with_misuse : Tally → Tally
with_misuse t =
    record t { faults = saturating_increment t.faults; misuses = saturating_increment t.misuses }

-- the counts if the tree was out of memory: one more fault, and one more lack of memory
abbrev pub with_memory_fault : Tally → Tally
with_memory_fault t = record t {
  faults = saturating_increment t.faults;
  memory_faults = saturating_increment
      t.memory_faults;
}

-- the counts after the start of a call, given those before it. The first argument says whether the state allows the
-- call (otherwise it is a misuse), the second whether its failure is planned. A misuse whose failure is planned counts
-- as a misuse alone
abbrev pub with_begun_call : Bool → Bool → Tally → Tally
with_begun_call false planned t = with_misuse (with_call t)
with_begun_call true true t = with_fault (with_call t)
with_begun_call true false t = with_call t

-- whether a call goes on after its start: the state allows it (first argument), and its failure is not planned (second
-- argument)
abbrev pub goes_on : Bool → Bool → Bool
goes_on false planned = false
goes_on true true = false
goes_on true false = true

-- no count of failures fell
pub record HasNotFallen (old new : Tally) : Type 0 where
  -- the number of failed calls did not fall
  pub faults : old.faults ≤ new.faults
  -- the number of misuses did not fall
  pub misuses : old.misuses ≤ new.misuses
  -- the number of calls that ran out of memory did not fall
  pub memory_faults : old.memory_faults ≤ new.memory_faults
