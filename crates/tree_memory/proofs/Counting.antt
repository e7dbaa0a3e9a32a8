-- What the counts of a tree in memory say of each call.
use Rattle.std.proofs.Common.{◌≡◌, ◌⊎◌, inl, inr, ⊎_elim, ℕ, ◌-◌, ◌||◌, Bool, true, false, cond, eqb, ltb, List, [], ◌∷◌, Option, None, Some, Result, Ok, Err, is_ok, is_some, IsErr, refl, ap, subst, ◌∙◌, arith}
use Rattle.std.specs.List.{list_any}
use Rattle.std.specs.Option.{option_map}
use Rattle.std.proofs.lemmas.Bool.Decides.{nat_tests}
use Rattle.std.proofs.lemmas.Bool.{both_ways}
use Rattle.base_core.specs.Tree.{TreeState}
use Rattle.base_core.specs.Calls.{IsCounted}
use Rattle.base_core.specs.Faults.{CountsOnlyRise, CountsNewFaultWithCause}
use Rattle.base_core.proofs.Booleans.{or_weaker}
use Rattle.tree_memory.specs.Plans.{FailurePlanFromNextCall, is_next_call_listed, is_stop_reached, is_next_call_to_fail, has_next_or_later_failure, listed_calls_after_one_call, plan_after_one_call}
use Rattle.tree_memory.specs.Tallies.{with_call, with_fault, with_misuse, with_memory_fault, with_begun_call, goes_on, HasNotFallen}
use Rattle.tree_memory.specs.Memory.{counts_by}
use Rattle.tree_memory.specs.declared.calls.Calls.{Calls}
use Rattle.tree_memory.specs.declared.calls.Tally.{Tally}

-- ---- plans

above_one : (n : ℕ) → eqb n 1 ≡ true → ltb 0 n ≡ true
above_one n one = grind (arith, nat_tests)

-- whether a number of a list is one of a call still to come
abbrev is_ahead : List ℕ → Bool
is_ahead listed = list_any (λ n. ltb 0 n) listed

listed_ahead : (listed : List ℕ) → is_next_call_listed listed ≡ true → is_ahead listed ≡ true
listed_ahead [] is = absurd (cc)
listed_ahead (n ∷ listed) is = or_weaker (eqb n 1) (is_next_call_listed listed) (ltb 0 n) (is_ahead listed) (above_one n) (listed_ahead listed) is

stopped_some : (stop : Option ℕ) → is_stop_reached stop ≡ true → is_some stop ≡ true
stopped_some None is = absurd (cc)
stopped_some (Some n) is = refl

-- a failure of the next call is one still to come
pub next_is_more : (plan : FailurePlanFromNextCall) → is_next_call_to_fail plan ≡ true → has_next_or_later_failure plan ≡ true
next_is_more plan is = or_weaker (is_next_call_listed plan.listed) (is_stop_reached plan.stop) (is_ahead plan.listed) (is_some plan.stop) (listed_ahead plan.listed) (stopped_some plan.stop) is

above : (n : ℕ) → ltb 0 (n - 1) ≡ true → ltb 0 n ≡ true
above n one = grind (arith, nat_tests)

by : (n : ℕ) (old : Bool) (rest : List ℕ) (b : Bool) → ltb 0 (n - 1) ≡ b → (is_ahead rest ≡ true → old ≡ true) → is_ahead (cond b ((n - 1) ∷ rest) rest) ≡ true → (ltb 0 n || old) ≡ true
by n old rest true at more is = ap (λ b. b || old) (above n at)
by n old rest false at more is = or_weaker false (is_ahead rest) (ltb 0 n) old (λ none. absurd (cc)) more is

ahead_is_ahead : (listed : List ℕ) → is_ahead (listed_calls_after_one_call listed) ≡ true → is_ahead listed ≡ true
ahead_is_ahead [] is = absurd (cc)
ahead_is_ahead (n ∷ listed) is = by n (is_ahead listed) (listed_calls_after_one_call listed) (ltb 0 (n - 1)) refl (ahead_is_ahead listed) is

some_is_some : (stop : Option ℕ) → is_some (option_map (λ n. n - 1) stop) ≡ true → is_some stop ≡ true
some_is_some None is = is
some_is_some (Some n) is = refl

-- and so is one behind the next call
pub more_is_more : (plan : FailurePlanFromNextCall) → has_next_or_later_failure (plan_after_one_call plan) ≡ true → has_next_or_later_failure plan ≡ true
more_is_more plan is = or_weaker (is_ahead (listed_calls_after_one_call plan.listed)) (is_some (option_map (λ n. n - 1) plan.stop)) (is_ahead plan.listed) (is_some plan.stop) (ahead_is_ahead plan.listed) (some_is_some plan.stop) is

-- ---- a call that begins

-- a call was counted, and fails at once if it has to, or if that is planned
pub record IsBegun (b : Bool) (writes : ℕ) (old new : Calls) : Type 0 where
  pub plan : new.plan ≡ plan_after_one_call old.plan
  pub tally : new.tally ≡ with_begun_call b (is_next_call_to_fail old.plan) (record old.tally { writes = writes })
  pub grown : HasNotFallen old.tally new.tally

-- b is the answer to whether it is no misuse
pub record Says (b : Bool) (P : Type 0) : Type 0 where
  pub good : b ≡ true → P
  pub back : P → b ≡ true

pub says : (b : Bool) (P : Type 0) → (b ≡ true → P) × (P → b ≡ true) → Says b P
says b P both = record { good = both.0; back = both.1 }

pub always : (v : TreeState) → Says true (Unit {0})
always v = record { good = λ _. tt; back = λ _. refl }

on : (old new : Calls) → HasNotFallen old.tally new.tally → new.plan ≡ plan_after_one_call old.plan → CountsOnlyRise (counts_by old) (counts_by new)
on old new grown nearer = record { faults = grown.faults; misuses = grown.misuses; memory_faults = grown.memory_faults; fallible = λ f. more_is_more old.plan (subst (λ (p : FailurePlanFromNextCall). has_next_or_later_failure p ≡ true) nearer f) }

-- ---- one that goes on

module _ (b : Bool) (writes : ℕ) (old new : Calls) (h : IsBegun b writes old new) where
  abbrev begun_at : Bool → Bool → Tally
  begun_at c p = with_begun_call c p (record old.tally { writes = writes })

  free : (c p : Bool) → goes_on c p ≡ true → (c ≡ true) × (p ≡ false)
  free true false goes = (refl, refl)
  free true true goes = absurd (cc)
  free false p goes = absurd (cc)

  pub is_free : goes_on b (is_next_call_to_fail old.plan) ≡ true → (b ≡ true) × (is_next_call_to_fail old.plan ≡ false)
  is_free goes = free b (is_next_call_to_fail old.plan) goes

  pub free_tally : goes_on b (is_next_call_to_fail old.plan) ≡ true → new.tally ≡ with_call (record old.tally { writes = writes })
  free_tally goes = let at = is_free goes in h.tally ∙ (λ i. begun_at (at.0 i) (at.1 i))

  -- ---- one that fails at once

  failed : (c p : Bool) → goes_on c p ≡ false → ((c ≡ false) × (begun_at c p ≡ with_misuse (with_call (record old.tally { writes = writes })))) ⊎ ((c ≡ true) × (p ≡ true) × (begun_at c p ≡ with_fault (with_call (record old.tally { writes = writes }))))
  failed true false stays = absurd (cc)
  failed true true stays = inr (refl, refl, refl)
  failed false p stays = inl (refl, refl)

  pub record IsMisused : Type 0 where
    pub cannot : b ≡ false
    pub tally : new.tally ≡ with_misuse (with_call (record old.tally { writes = writes }))

  pub record IsPlanned : Type 0 where
    pub can : b ≡ true
    pub next : is_next_call_to_fail old.plan ≡ true
    pub tally : new.tally ≡ with_fault (with_call (record old.tally { writes = writes }))

  pub has_failed : goes_on b (is_next_call_to_fail old.plan) ≡ false → IsMisused ⊎ IsPlanned
  has_failed stays = ⊎_elim (λ m. inl (record { cannot = m.0; tally = h.tally ∙ m.1 })) (λ p. inr (record { can = p.0; next = p.1; tally = h.tally ∙ p.2 })) (failed b (is_next_call_to_fail old.plan) stays)

  pub begun_on : CountsOnlyRise (counts_by old) (counts_by new)
  begun_on = on old new h.grown h.plan

-- a call that is never a misuse fails if that is planned
pub planned_cause : (writes : ℕ) (old new : Calls) → IsBegun true writes old new → goes_on true (is_next_call_to_fail old.plan) ≡ false → CountsNewFaultWithCause (counts_by old) (counts_by new)
planned_cause writes old new h stays = ⊎_elim (λ m. absurd (both_ways true m.cannot refl))
    (λ p. record { fault = omega (arith, ap (λ (u : Tally). u.faults) p.tally); reason = inl (next_is_more old.plan p.next) })
    (has_failed true writes old new h stays)

-- ---- what the counts say

module _ (can : TreeState → Type 0) (v : TreeState) (earlier : List TreeState) (b : Bool) (s : Says b (can v)) (writes : ℕ) (old new : Calls) (h : IsBegun b writes old new) {T E : Type 0} where
  pub refused_counts : (r : Result T E) → IsErr r → goes_on b (is_next_call_to_fail old.plan) ≡ false → IsCounted can (v ∷ earlier) (counts_by old) (counts_by new) r
  refused_counts (Ok x) is stays = absurd (cc (is))
  refused_counts (Err e) is stays = ⊎_elim misuse planned (has_failed b writes old new h stays)
    where
      misuse : IsMisused b writes old new h → IsCounted {T = T} can (v ∷ earlier) (counts_by old) (counts_by new) (Err e)
      misuse m = let cannot : can v → ⊥ = λ can_do. both_ways b m.cannot (s.back can_do) in record {
        goes_on = on old new h.grown h.plan;
        cause = record { fault = omega (arith, ap (λ (u : Tally). u.faults) m.tally); reason = inr (inl (omega (arith, ap (λ (u : Tally). u.misuses) m.tally))) };
        kept = tt;
        allowed = tt;
        proper = λ can_do. absurd (cannot can_do);
        misuse = λ _. ap (λ (u : Tally). u.misuses) m.tally;
      }

      planned : IsPlanned b writes old new h → IsCounted {T = T} can (v ∷ earlier) (counts_by old) (counts_by new) (Err e)
      planned p = record {
        goes_on = on old new h.grown h.plan;
        cause = record { fault = omega (arith, ap (λ (u : Tally). u.faults) p.tally); reason = inl (next_is_more old.plan p.next) };
        kept = tt;
        allowed = tt;
        proper = λ _. ap (λ (u : Tally). u.misuses) p.tally;
        misuse = λ cannot. absurd (cannot (s.good p.can));
      }

  pub done_counts : (x : T) → goes_on b (is_next_call_to_fail old.plan) ≡ true → IsCounted {E = E} can (v ∷ earlier) (counts_by old) (counts_by new) (Ok x)
  done_counts x goes = let tally = free_tally b writes old new h goes in let can_do = s.good (is_free b writes old new h goes).0 in record {
    goes_on = on old new h.grown h.plan;
    cause = tt;
    kept = record { faults = ap (λ (u : Tally). u.faults) tally; memory_faults = ap (λ (u : Tally). u.memory_faults) tally };
    allowed = can_do;
    proper = λ _. ap (λ (u : Tally). u.misuses) tally;
    misuse = λ cannot. absurd (cannot can_do);
  }

-- ---- a call that ends

-- the end of a call, for which there was memory or not
pub record IsEnded (there : Bool) (mid new : Calls) : Type 0 where
  pub plan : new.plan ≡ mid.plan
  pub tally : new.tally ≡ cond there mid.tally (with_memory_fault mid.tally)
  pub grown : HasNotFallen mid.tally new.tally

module _ (can : TreeState → Type 0) (v : TreeState) (earlier : List TreeState) (b : Bool) (s : Says b (can v)) (writes : ℕ) (old mid new : Calls) (h : IsBegun b writes old mid) (goes : goes_on b (is_next_call_to_fail old.plan) ≡ true) where
  can_do : can v
  can_do = s.good (is_free b writes old mid h goes).0

  ended_on : (there : Bool) → IsEnded there mid new → CountsOnlyRise (counts_by old) (counts_by new)
  ended_on there end = on old new (record {
    faults = omega (arith, h.grown.faults, end.grown.faults);
    misuses = omega (arith, h.grown.misuses, end.grown.misuses);
    memory_faults = omega (arith, h.grown.memory_faults, end.grown.memory_faults);
  }) (end.plan ∙ h.plan)

  pub ended_counts : {T E : Type 0} (there : Bool) (r : Result T E) → IsEnded there mid new → is_ok r ≡ there → IsCounted can (v ∷ earlier) (counts_by old) (counts_by new) r
  ended_counts true (Ok x) end is = let tally = end.tally ∙ free_tally b writes old mid h goes in record {
    goes_on = ended_on true end;
    cause = tt;
    kept = record { faults = ap (λ (u : Tally). u.faults) tally; memory_faults = ap (λ (u : Tally). u.memory_faults) tally };
    allowed = can_do;
    proper = λ _. ap (λ (u : Tally). u.misuses) tally;
    misuse = λ cannot. absurd (cannot can_do);
  }
  ended_counts true (Err e) end is = absurd (cc (is))
  ended_counts false (Ok x) end is = absurd (cc (is))
  ended_counts false (Err e) end is = let tally = end.tally ∙ ap with_memory_fault (free_tally b writes old mid h goes) in record {
    goes_on = ended_on false end;
    cause = record { fault = omega (arith, ap (λ (u : Tally). u.faults) tally); reason = inr (inr (omega (arith, ap (λ (u : Tally). u.memory_faults) tally))) };
    kept = tt;
    allowed = tt;
    proper = λ _. ap (λ (u : Tally). u.misuses) tally;
    misuse = λ cannot. absurd (cannot can_do);
  }
