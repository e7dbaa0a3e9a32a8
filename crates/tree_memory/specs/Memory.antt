-- What is observable of a tree in memory, and what each of its calls ensures beyond the trait's
-- contract.
-- The rules are in `docs/crash-safety.md`, "Misuses, faults and counts".
use Rattle.std.specs.Prelude.{◌≡◌, ◌⊎◌, ℕ, true, false, if◌then◌else◌, List, Result, OnOk, OnErr, is_ok}
use Rattle.base_core.specs.Faults.{Counts, saturating_increment}
use Rattle.base_core.specs.Tree.{TreeState}
use Rattle.tree_memory.specs.Plans.{FailurePlanFromNextCall, is_next_call_to_fail, has_next_or_later_failure, plan_after_one_call}
use Rattle.tree_memory.specs.Stores.{store_state, store_history}
use Rattle.tree_memory.specs.declared.calls.Calls.{Calls}
use Rattle.tree_memory.specs.declared.tree.MemoryTree.{MemoryTree}

-- the newest state of a tree in memory
abbrev pub tree_state : MemoryTree → TreeState
tree_state tree = store_state tree.store

-- the states of a tree in memory so far, the newest first
abbrev pub history_of : MemoryTree → List TreeState
history_of tree = store_history tree.store

-- which calls of a tree in memory are to fail
abbrev pub failure_plan_of : MemoryTree → FailurePlanFromNextCall
failure_plan_of tree = tree.calls.plan

-- no call has failed, and no failure is planned
abbrev pub no_faults : Counts
no_faults = record { faults = 0; misuses = 0; memory_faults = 0; fallible = false }

-- the counts of a tree, given its calls; it may fail for an outside reason (`fallible`) only while a
-- failure is planned
abbrev pub counts_by : Calls → Counts
counts_by calls = record {
  faults = calls.tally.faults;
  misuses = calls.tally.misuses;
  memory_faults = calls.tally.memory_faults;
  fallible = has_next_or_later_failure calls.plan;
}

-- the counts of a tree in memory: its failed calls, its misuses, and its calls that ran out of memory
abbrev pub counts_of : MemoryTree → Counts
counts_of tree = counts_by tree.calls

-- how many calls of a tree in memory were made
abbrev pub calls_of : MemoryTree → ℕ
calls_of tree = tree.calls.tally.calls

-- how many calls other than `size`, `read_at`, `list` and `check_target` were made
abbrev pub writes_of : MemoryTree → ℕ
writes_of tree = tree.calls.tally.writes

-- the greatest length that a `read_at` of the tree asked for
abbrev pub longest_read_of : MemoryTree → ℕ
longest_read_of tree = tree.longest

-- ---- a call that reads

-- a call that reads: it is counted, and the plan of failures is then counted from the call after it. An error is
-- counted as a fault, but never as a lack of memory
pub record IsReadCall {T E : Type 0} (old new : MemoryTree) (result : Result T E) : Type 0 where
  -- the call is counted
  pub calls : calls_of new ≡ saturating_increment (calls_of old)
  -- no call that writes is counted
  pub writes : writes_of new ≡ writes_of old
  -- the plan of failures is then counted from the call after this one
  pub plan : failure_plan_of new ≡ plan_after_one_call (failure_plan_of old)
  -- an error is counted as a fault
  pub faults : (counts_of new).faults
      ≡ (if is_ok result then (counts_of old).faults else saturating_increment
      (counts_of old).faults)
  -- no lack of memory is counted
  pub memory_faults : (counts_of new).memory_faults ≡ (counts_of old).memory_faults

-- ---- a call that writes

-- the next call has no reason to fail: no failure is planned for it, and it is no misuse. `can` says which states allow
-- the call
pub record HasNoReasonToFail (can : TreeState → Type 0) (old : MemoryTree) : Type 0 where
  -- no failure of the call is planned
  pub unplanned : is_next_call_to_fail (failure_plan_of old) ≡ false
  -- the state allows the call, so that it is no misuse
  pub proper : can (tree_state old)

-- a call failed because its failure was planned, or because it was a misuse (`can` says which states allow the call)
pub record FailedByPlanOrMisuse (can : TreeState → Type 0) (old new : MemoryTree) : Type 0 where
  -- the failure is planned, or the state does not allow the call
  pub reason : (is_next_call_to_fail (failure_plan_of old) ≡ true) ⊎ (can (tree_state old) → ⊥)
  -- no lack of memory is counted
  pub memory_faults : (counts_of new).memory_faults ≡ (counts_of old).memory_faults

-- a call failed only because the tree was out of memory
pub record FailedForMemory (can : TreeState → Type 0) (old new : MemoryTree) : Type 0 where
  -- the call had no other reason to fail: no failure is planned, and the state allows the call
  pub free : HasNoReasonToFail can old
  -- one more lack of memory is counted
  pub memory_faults : (counts_of new).memory_faults ≡ saturating_increment (counts_of old).memory_faults

-- a call that writes: it is counted, and the plan of failures is then counted from the call after it. An error is
-- counted as a fault, is due to the plan, a misuse or a lack of memory, and adds no state to the history
pub record IsWriteCall {T E : Type 0} (can : TreeState → Type 0) (old new : MemoryTree)
    (result : Result T E) : Type 0 where
  -- the call is counted
  pub calls : calls_of new ≡ saturating_increment (calls_of old)
  -- the call is counted as one that writes
  pub writes : writes_of new ≡ saturating_increment (writes_of old)
  -- the plan of failures is then counted from the call after this one
  pub plan : failure_plan_of new ≡ plan_after_one_call (failure_plan_of old)
  -- the greatest length that a `read_at` asked for is unchanged
  pub longest : longest_read_of new ≡ longest_read_of old
  -- an error is counted as a fault
  pub faults : (counts_of new).faults
      ≡ (if is_ok result then (counts_of old).faults else saturating_increment
      (counts_of old).faults)
  -- a call that succeeds had no reason to fail
  pub free : OnOk result (HasNoReasonToFail can old)
  -- a call that succeeds counts no lack of memory
  pub memory_faults : OnOk result ((counts_of new).memory_faults ≡ (counts_of old).memory_faults)
  -- an error is due to the plan, a misuse, or lack of memory
  pub reason : OnErr result (FailedByPlanOrMisuse can old new ⊎ FailedForMemory can old new)
  -- an error leaves the history as it was
  pub unchanged : OnErr result (history_of new ≡ history_of old)
