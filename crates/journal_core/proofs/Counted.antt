-- How the counts of the calls of a function explain the function's result, and what follows from an error.
use Rattle.std.proofs.Common.{List, Result, Ok, Err}
use Rattle.std.specs.Result.{IfOk, IsErrAnd, OnErr}
use Rattle.base_core.proofs.Counting.{cause_later, goes_on_twice, no_fault_twice}
use Rattle.base_core.specs.Calls.{IsCounted}
use Rattle.base_core.specs.Faults.{Counts}
use Rattle.base_core.specs.Tree.{TreeState}
use Rattle.journal_core.specs.CallCounts.{IsResultExplainedByCounts}

-- nothing is said of Ok if the result is an error
pub if_failed : {T E : Type 0} (r : Result T E) (fault : E → Type 0) (P : T → Type 0) → IsErrAnd r fault → IfOk r P
if_failed (Ok x) fault P bad = absurd bad
if_failed (Err e) fault P failed = tt

-- what holds is said of an error
pub on_error : {T E : Type 0} (r : Result T E) (P : Type 0) → P → OnErr r P
on_error (Ok x) P holds = tt
on_error (Err e) P holds = holds

-- the counts that a call changed explain the call's result
pub one_counted : {T E : Type 0} (can : TreeState → Type 0) (h : List TreeState) (before now : Counts) (r : Result T E) → IsCounted can h before now r → IsResultExplainedByCounts before now r
one_counted can h before now r counted = record { goes_on = counted.goes_on; cause = counted.cause; kept = counted.kept }

-- the counts that explain the error of a call explain the error that is returned for it
pub error_counted : {T U E F : Type 0} (before now : Counts) (e : E) (r : Result U F) (fault : F → Type 0) → IsErrAnd r fault → IsResultExplainedByCounts {T = T} before now (Err e) → IsResultExplainedByCounts before now r
error_counted before now e (Ok x) fault bad counts = absurd bad
error_counted before now e (Err f) fault failed counts = record { goes_on = counts.goes_on; cause = counts.cause; kept = tt }

-- the counts that explain that a call succeeded explain each other Ok
pub done_counted : {T U E F : Type 0} (before now : Counts) (x : T) (y : U) → IsResultExplainedByCounts {E = E} before now (Ok x) → IsResultExplainedByCounts {E = F} before now (Ok y)
done_counted before now x y counts = record { goes_on = counts.goes_on; cause = tt; kept = counts.kept }

-- a call that succeeds, and then calls whose counts explain the result: all the counts explain it
pub later_counted : {T U E F : Type 0} (a b d : Counts) (x : T) (r : Result U F) → IsResultExplainedByCounts {E = E} a b (Ok x) → IsResultExplainedByCounts b d r → IsResultExplainedByCounts a d r
later_counted a b d x (Ok y) first last = record { goes_on = goes_on_twice a b d first.goes_on last.goes_on; cause = tt; kept = no_fault_twice a b d first.kept last.kept }
later_counted a b d x (Err e) first last = record { goes_on = goes_on_twice a b d first.goes_on last.goes_on; cause = cause_later a b d first.goes_on last.cause; kept = tt }
