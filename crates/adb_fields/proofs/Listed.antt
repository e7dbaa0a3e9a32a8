-- Lemmas that several crates need.
use Rattle.std.proofs.Common.{ℕ, ◌<◌, drop, ◌≡◌, ◌∷◌, ◌+◌, arith, zero, refl, suc, ◌∙◌, ap, ◌≤◌, []}
use Rattle.adb_fields.specs.Repeated.{list_of}
use Rattle.adb_view.specs.Plain.{Plains, none, more}
use Rattle.adb_view.specs.Values.{count_of, nth}

pub next_listed : (vs : Plains) (i : ℕ) → i < count_of vs → drop i (list_of vs) ≡ nth vs i ∷ drop (i + 1) (list_of vs)
next_listed none i h = absurd (omega arith)
next_listed (more v vs) zero h = refl
next_listed (more v vs) (suc i) h =
    let next : suc (i + 1) ≡ suc i + 1 = omega arith in
    next_listed vs i (omega arith) ∙ ap (λ n. nth vs i ∷ drop n (v ∷ list_of vs)) next

pub none_listed : (vs : Plains) (i : ℕ) → count_of vs ≤ i → drop i (list_of vs) ≡ []
none_listed none zero h = refl
none_listed none (suc i) h = refl
none_listed (more v vs) zero h = absurd (omega arith)
none_listed (more v vs) (suc i) h = none_listed vs i (omega arith)
