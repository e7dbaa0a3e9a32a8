-- Texts in a range that has a period.
use Rattle.std.proofs.Common.{◌≡◌, ◌≤◌, ℕ, zero, suc, Bool, true, false, List, ap, sym, subst, ◌∙◌, ◌+◌, ◌-◌, ◌*◌, ◌/◌, ◌%◌, nat_eq, arith}
use Rattle.std.specs.Prelude.{take, drop}
use Rattle.std.specs.Bool.{OnTrue}
use Rattle.std.proofs.lemmas.List.{take-take, drop-drop, drop-take}
use Rattle.std.proofs.lemmas.Nat.{div-add-mod'}
use Rattle.adb_copy.specs.Known.{HasPeriod, IsPhaseOf, AreEqualByPeriod}
use Rattle.adb_copy.specs.declared.overlaps.PeriodicRange.{PeriodicRange}
use Rattle.adb_copy.specs.declared.overlaps.TextPlace.{TextPlace}

-- a part of a part
part : (xs : List ℕ) (from m k n : ℕ) → k + n ≤ m → take n (drop k (take m (drop from xs))) ≡ take n (drop (from + k) xs)
part xs from m k n le =
    let e : m ≡ k + (m - k) = omega (arith, le) in
    let rest : n ≤ m - k = omega (arith, le) in
    ap (λ (i : ℕ). take n (drop k (take i (drop from xs)))) e
    ∙ (ap (take n) (drop-take k (m - k) (drop from xs))
    ∙ (take-take n (m - k) (drop k (drop from xs)) rest
    ∙ ap (take n) (drop-drop k from xs)))

module _ (payload : List ℕ) (r : PeriodicRange) (has : HasPeriod payload r) where
  -- a period on
  one : (at n : ℕ) → r.from ≤ at → at + r.period + n ≤ r.end → take n (drop (at + r.period) payload) ≡ take n (drop at payload)
  one at n behind within =
      let k : ℕ = at - r.from in
      let first : r.from + r.period + k ≡ at + r.period = omega (arith, behind) in
      let second : r.from + k ≡ at = omega (arith, behind) in
      let fits : k + n ≤ r.end - (r.from + r.period) = omega (arith, behind, within) in
      let fits_too : k + n ≤ r.end - r.period - r.from = omega (arith, behind, within) in
      ap (λ (i : ℕ). take n (drop i payload)) (sym first)
      ∙ (sym (part payload (r.from + r.period) (r.end - (r.from + r.period)) k n fits)
      ∙ (ap (λ (bs : List ℕ). take n (drop k bs)) has
      ∙ (part payload r.from (r.end - r.period - r.from) k n fits_too
      ∙ ap (λ (i : ℕ). take n (drop i payload)) second)))

  -- some periods on
  many : (k at n : ℕ) → r.from ≤ at → at + k * r.period + n ≤ r.end → take n (drop (at + k * r.period) payload) ≡ take n (drop at payload)
  many zero at n behind within = ap (λ (i : ℕ). take n (drop i payload)) (omega arith)
  many (suc k) at n behind within =
      let e : at + suc k * r.period ≡ at + k * r.period + r.period = grind arith in
      let fits : at + k * r.period + r.period + n ≤ r.end = omega (arith, e, within) in
      let before : at + k * r.period + n ≤ r.end = omega (arith, fits) in
      let from : r.from ≤ at + k * r.period = omega (arith, behind) in
      ap (λ (i : ℕ). take n (drop i payload)) e ∙ (one (at + k * r.period) n from fits ∙ many k at n behind before)

  -- in the first period
  first : (t : TextPlace) (phase : ℕ) → IsPhaseOf r t phase → take t.len (drop t.from payload) ≡ take t.len (drop (r.from + phase) payload)
  first t phase h =
      let d : ℕ = t.from - r.from in
      let whole : d / r.period * r.period + d % r.period ≡ d = div-add-mod' d r.period in
      let is : phase ≡ d % r.period = h.is in
      let behind : r.from ≤ t.from = h.behind in
      let e : t.from ≡ r.from + phase + d / r.period * r.period = omega (arith, whole, is, behind) in
      let within : t.from + t.len ≤ r.end = h.within in
      let fits : r.from + phase + d / r.period * r.period + t.len ≤ r.end = omega (arith, e, within) in
      let from : r.from ≤ r.from + phase = omega arith in
      ap (λ (i : ℕ). take t.len (drop i payload)) e ∙ many (d / r.period) (r.from + phase) t.len from fits

-- two texts of one phase and one length
pub equal_under : (r : PeriodicRange) (left right : TextPlace) (phase : ℕ) → IsPhaseOf r left phase → IsPhaseOf r right phase → left.len ≡ right.len → AreEqualByPeriod r left right
equal_under r left right phase a b len payload has =
    first payload r has left phase a
    ∙ (ap (λ (n : ℕ). take n (drop (r.from + phase) payload)) len ∙ sym (first payload r has right phase b))

pub equal_if : (r : PeriodicRange) (left right : TextPlace) (phase other : ℕ) → IsPhaseOf r left phase → IsPhaseOf r right other → phase ≡ other
    → (same : Bool) → same ≡ nat_eq left.len right.len → OnTrue same (AreEqualByPeriod r left right)
equal_if r left right phase other a b e true same =
    let len : left.len ≡ right.len = grind (arith, same) in
    equal_under r left right phase a (subst (IsPhaseOf r right) (sym e) b) len
equal_if r left right phase other a b e false same = tt
