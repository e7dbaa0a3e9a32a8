-- How the tree's counts explain the result of a function that calls the tree. The rules are in
-- `docs/crash-safety.md`, "Misuses, faults and counts". Serves the contracts of `acting`, `publishing` and
-- `stage`, and those of the crates above.
use Rattle.std.specs.Prelude.{Result, OnOk, OnErr}
use Rattle.base_core.specs.Faults.{Counts, CountsOnlyRise, CountsNewFaultWithCause, CountsNoNewFaultOrLackOfMemory}

-- How the tree's counts before a call (`before`) and after it (`now`) explain the call's result, whose only error is
-- a fault of the tree.
pub record IsResultExplainedByCounts {T E : Type 0} (before now : Counts)
    (result : Result T E) : Type 0 where
  -- no count of faults falls
  pub goes_on : CountsOnlyRise before now
  -- an error is returned only if the count of faults rose, and the counts give the fault a cause
  pub cause : OnErr result (CountsNewFaultWithCause before now)
  -- Ok is returned only if the count of faults did not rise
  pub kept : OnOk result (CountsNoNewFaultOrLackOfMemory before now)
