-- A plan of failures: which calls are to fail, counted from 1 from now on.
-- The rule is that of `fail_at` and `stop_after` in the README of this crate. A planned failure counts
-- as an outside reason in `docs/crash-safety.md`, "Misuses, faults and counts".
use Rattle.std.specs.Prelude.{ℕ, zero, suc, ◌-◌, ◌==◌, nat_lt, Bool, false, ◌||◌, List, [], map, Option, Some, None, is_some}
use Rattle.std.specs.List.{list_any, filter}
use Rattle.std.specs.Option.{option_map}

-- a plan of failures: each call whose number is in `listed` fails, and, if `stop` is Some n, each call after the next n
-- calls. The next call is number 1
pub record FailurePlanFromNextCall : Type 0 where
  -- the numbers of the calls that fail, counted from 1 from now on
  pub listed : List ℕ
  -- after how many more calls every call fails, if a stop is planned
  pub stop : Option ℕ

-- the plan by which no call is to fail
abbrev pub no_plan : FailurePlanFromNextCall
no_plan = record { listed = []; stop = None }

-- ---- whether the next call is to fail

-- whether the next call, number 1, is in this list of calls that fail
abbrev pub is_next_call_listed : List ℕ → Bool
is_next_call_listed listed = list_any (λ n. n == 1) listed

-- whether no call is left before the planned stop (Some 0), so that the next call fails; false without a planned stop
abbrev pub is_stop_reached : Option ℕ → Bool
is_stop_reached None = false
is_stop_reached (Some n) = n == 0

-- whether the next call is to fail
abbrev pub is_next_call_to_fail : FailurePlanFromNextCall → Bool
is_next_call_to_fail plan = is_next_call_listed plan.listed || is_stop_reached plan.stop

-- whether the plan makes any call fail, the next one or a later one. A listed number 0 is no call
abbrev pub has_next_or_later_failure : FailurePlanFromNextCall → Bool
has_next_or_later_failure plan = list_any (λ n. nat_lt 0 n) plan.listed || is_some plan.stop

-- ---- the plan after the next call

-- the list of calls that fail, counted from the call after the next one: each number is one less, and 0 is dropped
abbrev pub listed_calls_after_one_call : List ℕ → List ℕ
listed_calls_after_one_call listed = filter (λ n. nat_lt 0 n) (map (λ n. n - 1) listed)

-- the plan after one call: its numbers are then counted from the call after this call
abbrev pub plan_after_one_call : FailurePlanFromNextCall → FailurePlanFromNextCall
plan_after_one_call plan =
    record { listed = listed_calls_after_one_call plan.listed; stop = option_map (λ n. n - 1) plan.stop }

-- the plan after this many calls (first argument): its numbers are then counted from the call after these calls
abbrev pub plan_after_calls : ℕ → FailurePlanFromNextCall → FailurePlanFromNextCall
plan_after_calls zero plan = plan
plan_after_calls (suc k) plan = plan_after_calls k (plan_after_one_call plan)

-- ---- which of the later calls are to fail

-- whether call k, counted from 1, is after the planned stop, which follows n more calls; false without one
abbrev pub is_after_stop : Option ℕ → ℕ → Bool
is_after_stop None k = false
is_after_stop (Some n) k = nat_lt n k

-- whether call k, counted from 1, is to fail: it is listed, or is after the stop
abbrev pub is_call_to_fail : FailurePlanFromNextCall → ℕ → Bool
is_call_to_fail plan k = list_any (λ n. n == k) plan.listed || is_after_stop plan.stop k
