-- The counts of a tree or a sink: u64 numbers that never fall, and stop at their largest value. The
-- rules are in `docs/crash-safety.md`, "Misuses, faults and counts".
use Rattle.std.specs.Prelude.{◌≡◌, ◌⊎◌, ◌≤◌, ℕ, ◌+◌, ◌-◌, ◌^◌, min, Bool, IsTrue, Result, OnOk, OnErr}

-- how many calls of a tree or of a sink failed, and whether a later call may fail for an outside
-- reason
pub record Counts : Type 0 where
  -- calls that failed
  pub faults : ℕ
  -- calls that were misuses, which always fail; a sink has none
  pub misuses : ℕ
  -- calls that failed because the object itself was out of memory
  pub memory_faults : ℕ
  -- whether a later call may fail for an outside reason: neither a misuse nor out of memory
  pub fallible : Bool

-- a count after one more call was counted: one more, but at most 2 ^ 64 - 1
abbrev pub saturating_increment : ℕ → ℕ
saturating_increment n = min (n + 1) (2 ^ 64 - 1)

-- a count rose, or has its largest value
abbrev pub RoseOrIsSaturated : ℕ → ℕ → Type 0
RoseOrIsSaturated before now = saturating_increment before ≤ now

-- from one moment (`before`) to a later one (`now`) no count fell, and `fallible` did not become true
pub record CountsOnlyRise (before now : Counts) : Type 0 where
  -- the number of failed calls
  pub faults : before.faults ≤ now.faults
  -- the number of misuses (invalid calls)
  pub misuses : before.misuses ≤ now.misuses
  -- the number of calls that failed for lack of memory
  pub memory_faults : before.memory_faults ≤ now.memory_faults
  -- `fallible` does not become true again
  pub fallible : IsTrue now.fallible → IsTrue before.fallible

-- between two moments a failed call was counted, and has a reason: an outside reason, a misuse, or the tree or sink was
-- out of memory
pub record CountsNewFaultWithCause (before now : Counts) : Type 0 where
  -- one more fault was counted, unless the count has its largest value
  pub fault : RoseOrIsSaturated before.faults now.faults
  -- `fallible` allowed an outside reason, or one more misuse or lack of memory was counted
  pub reason : IsTrue before.fallible ⊎ (RoseOrIsSaturated before.misuses now.misuses
      ⊎ RoseOrIsSaturated before.memory_faults now.memory_faults)

-- between two moments neither a fault nor a lack of memory was counted; misuses are left open
pub record CountsNoNewFaultOrLackOfMemory (before now : Counts) : Type 0 where
  -- the number of failed calls is unchanged
  pub faults : now.faults ≡ before.faults
  -- the number of calls that failed for lack of memory is unchanged
  pub memory_faults : now.memory_faults ≡ before.memory_faults

-- how a call of a sink changes the sink's counts, from `before` to `now`, given the result of the call
pub record FailsWithCause {T E : Type 0} (before now : Counts) (result : Result T E) : Type 0 where
  -- no count falls
  pub goes_on : CountsOnlyRise before now
  -- an error is counted as a fault, and has a reason
  pub cause : OnErr result (CountsNewFaultWithCause before now)
  -- a call that succeeds counts neither a fault nor a lack of memory
  pub kept : OnOk result (CountsNoNewFaultOrLackOfMemory before now)
  -- no call of a sink is a misuse
  pub proper : now.misuses ≡ before.misuses
