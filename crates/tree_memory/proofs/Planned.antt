-- Which calls a plan makes fail.
use Rattle.std.proofs.Common.{◌≡◌, ℕ, zero, suc, ◌+◌, ◌-◌, ◌||◌, Bool, true, false, cond, eqb, ltb, List, [], ◌∷◌, Option, None, Some, refl, sym, ap, ap₂, ◌∙◌, arith}
use Rattle.std.specs.List.{list_any}
use Rattle.std.specs.Option.{option_map}
use Rattle.std.proofs.lemmas.Bool.Decides.{nat_tests}
use Rattle.tree_memory.specs.Plans.{FailurePlanFromNextCall, is_after_stop, is_next_call_listed, is_next_call_to_fail, is_stop_reached, is_call_to_fail, listed_calls_after_one_call, plan_after_one_call, plan_after_calls}

-- the number k + 2 is one less behind the next call
less_at : (n k : ℕ) → ltb 0 (n - 1) ≡ true → eqb (n - 1) (k + 1) ≡ eqb n (k + 2)
less_at n k ahead = grind (arith, nat_tests)

not_at : (n k : ℕ) → ltb 0 (n - 1) ≡ false → eqb n (k + 2) ≡ false
not_at n k past = grind (arith, nat_tests)

listed_later : (listed : List ℕ) (k : ℕ) → list_any (λ n. eqb n (k + 1)) (listed_calls_after_one_call listed) ≡ list_any (λ n. eqb n (k + 2)) listed
listed_later [] k = refl
listed_later (n ∷ listed) k = by (ltb 0 (n - 1)) refl (listed_later listed k)
  where
    by : (ahead : Bool) → ltb 0 (n - 1) ≡ ahead → list_any (λ m. eqb m (k + 1)) (listed_calls_after_one_call listed) ≡ list_any (λ m. eqb m (k + 2)) listed
        → list_any (λ m. eqb m (k + 1)) (cond ahead ((n - 1) ∷ listed_calls_after_one_call listed) (listed_calls_after_one_call listed)) ≡ (eqb n (k + 2) || list_any (λ m. eqb m (k + 2)) listed)
    by true is rest = ap₂ ◌||◌ (less_at n k is) rest
    by false is rest = rest ∙ sym (ap (λ b. b || list_any (λ m. eqb m (k + 2)) listed) (not_at n k is))

after_later : (stop : Option ℕ) (k : ℕ) → is_after_stop (option_map (λ n. n - 1) stop) (k + 1) ≡ is_after_stop stop (k + 2)
after_later None k = refl
after_later (Some n) k = less n k
  where
    less : (n k : ℕ) → ltb (n - 1) (k + 1) ≡ ltb n (k + 2)
    less n k = grind (arith, nat_tests)

stopped_first : (stop : Option ℕ) → is_stop_reached stop ≡ is_after_stop stop 1
stopped_first None = refl
stopped_first (Some n) = first n
  where
    first : (n : ℕ) → eqb n 0 ≡ ltb n 1
    first n = grind (arith, nat_tests)

pub next-plan_after_calls : (plan : FailurePlanFromNextCall) (k : ℕ) → is_next_call_to_fail (plan_after_calls k plan) ≡ is_call_to_fail plan (k + 1)
next-plan_after_calls plan zero = ap (λ b. is_next_call_listed plan.listed || b) (stopped_first plan.stop)
next-plan_after_calls plan (suc k) = next-plan_after_calls (plan_after_one_call plan) k ∙ ap₂ ◌||◌ (listed_later plan.listed k) (after_later plan.stop k) ∙ ap (is_call_to_fail plan) (omega arith)
