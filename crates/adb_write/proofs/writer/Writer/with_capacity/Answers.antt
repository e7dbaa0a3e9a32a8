use Rattle.std.proofs.Common.{ℕ, List, length, drop, sym, ap, subst, arith, inl}
use Rattle.std.specs.List.{concat}
use Rattle.adb_write.specs.Keys.{HaveRisingKeys}
use Rattle.adb_write.specs.WordPages.{HaveNoEmptyPage}
use Rattle.adb_write.specs.WriterState.{AreStored}
use Rattle.adb_write.proofs.Rising.{rising_none}
use Rattle.adb_write.proofs.writer.Writer.with_capacity.Goals as goal

pub invariant_of-result : goal.invariant_of-result
invariant_of-result c =
    let p : List ℕ = c.in_ok-store.store.payload.items in
    record {
      head = inl c.in_ok-store.ensures.payload;
      agree = λ below. omega (arith, ap (λ (x : List ℕ). length (drop 8 x)) c.in_ok-store.ensures.payload);
      filled = subst HaveNoEmptyPage (sym c.in_ok-store.ensures.words) tt;
      rising = subst (λ (ps : List (List ℕ)). HaveRisingKeys p (concat ps)) (sym c.in_ok-store.ensures.words) (rising_none p);
      stored = subst (λ (ps : List (List ℕ)). AreStored p (concat ps)) (sym c.in_ok-store.ensures.words) tt;
    }
