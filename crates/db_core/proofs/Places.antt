-- Entries of an array, as a list: how many there are, and the place of the first that passes.
use Rattle.std.proofs.Common.{◌≡◌, ℕ, suc, zero, ◌+◌, ◌<◌, ◌≤◌, Bool, true, false, cond, List, drop, length, Option, Some, None, refl, ap, sym, ◌∙◌, subst, arith}
use Rattle.std.specs.Prelude.{slice_get, IfSome}
use Rattle.std.specs.List.{position_from}
use Rattle.db_core.proofs.AnyOf.{nothing}
use Rattle.adb_view.specs.Plain.{Plain, Plains, none, more}
use Rattle.adb_view.specs.Values.{nth, count_of}
use Rattle.pkg_core.specs.adb_fields.Repeated.{list_of}
use Rattle.pkg_core.proofs.adb_fields.NameLists.{count-listed}

pub nth_listed : (vs : Plains) (i : ℕ) → i < count_of vs → slice_get (list_of vs) i ≡ Some (nth vs i)
nth_listed none i h = absurd (omega arith)
nth_listed (more v vs) zero h = refl
nth_listed (more v vs) (suc i) h = nth_listed vs i (omega arith)

pub within_seen : (vs : Plains) (ps : List Plain) (r : Option ℕ) → ps ≡ list_of vs → IfSome r (λ i. i < count_of vs) → IfSome r (λ i. i < length ps)
within_seen vs ps None e w = tt
within_seen vs ps (Some i) e w = subst (λ n. i < n) (count-listed vs ∙ ap length (sym e)) w

-- ---- the first that passes

place_step : (p : Plain → Bool) (vs : Plains) (n i : ℕ) → i < count_of vs
    → position_from p n (drop i (list_of vs)) ≡ cond (p (nth vs i)) (Some n) (position_from p (n + 1) (drop (suc i) (list_of vs)))
place_step p none n i h = absurd (omega arith)
place_step p (more v vs) n zero h = refl
place_step p (more v vs) n (suc i) h = place_step p vs n i (omega arith)

past_end : (p : Plain → Bool) (vs : Plains) (n i : ℕ) → count_of vs ≤ i → position_from p n (drop i (list_of vs)) ≡ None
past_end p none n i h = ap (position_from p n) (nothing i)
past_end p (more v vs) n zero h = absurd (omega arith)
past_end p (more v vs) n (suc i) h = past_end p vs n i (omega arith)

-- none in front of a place passes: the rest decides
abbrev pub IsLeft : (Plain → Bool) → Plains → ℕ → Type 0
IsLeft p vs i = position_from p i (drop i (list_of vs)) ≡ position_from p 0 (list_of vs)

pub place_next : (p : Plain → Bool) (vs : Plains) (i : ℕ) (t : Bool) → i < count_of vs → t ≡ p (nth vs i) → t ≡ false → IsLeft p vs i → IsLeft p vs (i + 1)
place_next p vs i t h is e inv =
    let n : i + 1 ≡ suc i = omega arith in
    ap (λ k. position_from p (i + 1) (drop k (list_of vs))) n
    ∙ (sym (ap (λ b. cond b (Some i) (position_from p (i + 1) (drop (suc i) (list_of vs)))) (sym is ∙ e)) ∙ (sym (place_step p vs i i h) ∙ inv))

pub place_found : (p : Plain → Bool) (vs : Plains) (i : ℕ) (t : Bool) → i < count_of vs → t ≡ p (nth vs i) → t ≡ true → IsLeft p vs i → Some i ≡ position_from p 0 (list_of vs)
place_found p vs i t h is e inv =
    sym (ap (λ b. cond b (Some i) (position_from p (i + 1) (drop (suc i) (list_of vs)))) (sym is ∙ e)) ∙ (sym (place_step p vs i i h) ∙ inv)

pub place_none : (p : Plain → Bool) (vs : Plains) (i : ℕ) → count_of vs ≤ i → IsLeft p vs i → None ≡ position_from p 0 (list_of vs)
place_none p vs i h inv = sym (past_end p vs i i h) ∙ inv
