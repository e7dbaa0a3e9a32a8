-- The counts of several calls.
use Rattle.std.proofs.Common.{◌≡◌, ◌∙◌, ◌≤◌, ℕ, inl, inr, List, [], ◌∷◌, ◌++◌, Result, Ok, Err, refl, subst, arith}
use Rattle.base_core.specs.Calls.{IfObservable}
use Rattle.base_core.specs.Read.{OnlyReads}
use Rattle.base_core.specs.Faults.{Counts, CountsOnlyRise, CountsNewFaultWithCause, CountsNoNewFaultOrLackOfMemory, RoseOrIsSaturated}
use Rattle.base_core.specs.Restart.{HasNameLedToFileNumberedAtLeast}
use Rattle.base_core.specs.Tree.{TreeState}

pub goes_on_twice : (a b c : Counts) → CountsOnlyRise a b → CountsOnlyRise b c → CountsOnlyRise a c
goes_on_twice a b c h k = record {
  faults = omega (arith, h.faults, k.faults);
  misuses = omega (arith, h.misuses, k.misuses);
  memory_faults = omega (arith, h.memory_faults, k.memory_faults);
  fallible = λ now. h.fallible (k.fallible now);
}

pub goes_on_same : (a : Counts) → CountsOnlyRise a a
goes_on_same a = record { faults = omega arith; misuses = omega arith; memory_faults = omega arith; fallible = λ now. now }

pub no_fault_twice : (a b c : Counts) → CountsNoNewFaultOrLackOfMemory a b → CountsNoNewFaultOrLackOfMemory b c → CountsNoNewFaultOrLackOfMemory a c
no_fault_twice a b c h k = record { faults = k.faults ∙ h.faults; memory_faults = k.memory_faults ∙ h.memory_faults }

pub no_fault_same : (a : Counts) → CountsNoNewFaultOrLackOfMemory a a
no_fault_same a = record { faults = refl; memory_faults = refl }

-- ---- a call that failed, before calls and behind them

rose_sooner : (a b c : ℕ) → RoseOrIsSaturated a b → b ≤ c → RoseOrIsSaturated a c
rose_sooner a b c h k = omega arith

pub cause_sooner : (a b c : Counts) → CountsNewFaultWithCause a b → CountsOnlyRise b c → CountsNewFaultWithCause a c
cause_sooner a b c h k = record {
  fault = rose_sooner a.faults b.faults c.faults h.fault k.faults;
  reason = elim h.reason [
    | inl fallible ↦ inl fallible
    | inr (inl misuse) ↦ inr (inl (rose_sooner a.misuses b.misuses c.misuses misuse k.misuses))
    | inr (inr want) ↦ inr (inr (rose_sooner a.memory_faults b.memory_faults c.memory_faults want k.memory_faults))
  ];
}

pub rose_later : (a b c : ℕ) → a ≤ b → RoseOrIsSaturated b c → RoseOrIsSaturated a c
rose_later a b c h k = omega arith

pub cause_later : (a b c : Counts) → CountsOnlyRise a b → CountsNewFaultWithCause b c → CountsNewFaultWithCause a c
cause_later a b c h k = record {
  fault = rose_later a.faults b.faults c.faults h.faults k.fault;
  reason = elim k.reason [
    | inl fallible ↦ inl (h.fallible fallible)
    | inr (inl misuse) ↦ inr (inl (rose_later a.misuses b.misuses c.misuses h.misuses misuse))
    | inr (inr want) ↦ inr (inr (rose_later a.memory_faults b.memory_faults c.memory_faults h.memory_faults want))
  ];
}

-- ---- calls that only read

observable_still : (old new : List TreeState) (P : TreeState → Type 0) → new ≡ old → IfObservable new P → IfObservable old P
observable_still old new P is observable = let Q : List TreeState → Type 0 = λ l. IfObservable l P in subst Q is observable

proper_both : (h : List TreeState) (l m n : ℕ) → IfObservable h (λ v. m ≡ l) → IfObservable h (λ v. n ≡ m) → IfObservable h (λ v. n ≡ l)
proper_both [] l m n first then = tt
proper_both (v ∷ h) l m n first then = then ∙ first

pub readings_none : {A E : Type 0} (disk : E) (h : List TreeState) (a : Counts) (value : A) → OnlyReads disk h h a a (Ok value)
readings_none disk h a value = record {
  same = refl;
  goes_on = goes_on_same a;
  disk = λ off. absurd (cc);
  kept = no_fault_same a;
  others = tt;
  proper = proper_none h;
}
  where
    proper_none : (h : List TreeState) → IfObservable h (λ v. a.misuses ≡ a.misuses)
    proper_none [] = tt
    proper_none (v ∷ h) = refl

pub readings_two : {A B E : Type 0} (disk : E) (h0 h1 h2 : List TreeState) (a b c : Counts) (value : A) (then : Result B E)
    → OnlyReads disk h0 h1 a b (Ok value) → OnlyReads disk h1 h2 b c then → OnlyReads disk h0 h2 a c then
readings_two disk h0 h1 h2 a b c value (Ok x) h k = record {
  same = k.same ∙ h.same;
  goes_on = goes_on_twice a b c h.goes_on k.goes_on;
  disk = λ off. absurd (cc);
  kept = no_fault_twice a b c h.kept k.kept;
  others = tt;
  proper = proper_both h0 a.misuses b.misuses c.misuses h.proper (observable_still h0 h1 _ h.same k.proper);
}
readings_two disk h0 h1 h2 a b c value (Err fault) h k = record {
  same = k.same ∙ h.same;
  goes_on = goes_on_twice a b c h.goes_on k.goes_on;
  disk = λ is. cause_later a b c h.goes_on (k.disk is);
  kept = tt;
  others = λ off. no_fault_twice a b c h.kept (k.others off);
  proper = proper_both h0 a.misuses b.misuses c.misuses h.proper (observable_still h0 h1 _ h.same k.proper);
}

-- ---- a file that was made in a run

pub led_sooner : (name : List ℕ) (a b : ℕ) (moments : List TreeState) → a ≤ b → HasNameLedToFileNumberedAtLeast name b moments → HasNameLedToFileNumberedAtLeast name a moments
led_sooner name a b [] up led = led
led_sooner name a b (v ∷ earlier) up (inl here) = inl (here.0, here.1, omega (arith, up, here.2))
led_sooner name a b (v ∷ earlier) up (inr before) = inr (led_sooner name a b earlier up before)

pub led_later : (name : List ℕ) (made : ℕ) (later moments : List TreeState) → HasNameLedToFileNumberedAtLeast name made moments → HasNameLedToFileNumberedAtLeast name made (later ++ moments)
led_later name made [] moments led = led
led_later name made (v ∷ later) moments led = inr (led_later name made later moments led)
