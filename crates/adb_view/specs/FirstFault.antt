-- When a fault is the first one of a walk's visits. Serves the law `the_first_faulty_visit_is_reported`; the rule
-- is in `docs/formats.md`, "The shape".
use Rattle.std.specs.Prelude.{◌≡◌, ℕ, ◌+◌, ◌<◌, List, slice_get, Some, None}
use Rattle.adb_view.specs.Visits.{Visit}
use Rattle.adb_view.specs.Walk.{visit_fault}
use Rattle.base_core.specs.declared.cause.Cause.{Cause}

-- `vs` are the visits of a walk over the payload `p`. The visit with the index i has the fault `c`, and no visit
-- before it has a fault. The number of a visit counts from 1, so it is the index plus 1
pub record IsFirstFaultOfVisits (p : List ℕ) (vs : List Visit) (c : Cause) : Type 0 where
  -- the index of the faulty visit, counted from 0
  pub i : ℕ
  -- the faulty visit
  pub v : Visit
  -- `v` is the visit with the index i
  pub at : slice_get vs i ≡ Some v
  -- the visit `v` has the fault `c`
  pub fault : visit_fault p (i + 1) v ≡ Some c
  -- no visit before it has a fault
  pub before : (j : ℕ) → (u : Visit) → j < i → slice_get vs j ≡ Some u → visit_fault p (j + 1) u
      ≡ None
