-- What a map has at one name, and at the others.
use Rattle.std.proofs.Common.{◌≡◌, ◌⊎◌, ◌≢◌, inl, inr, ℕ, Bool, true, false, cond, List, Option, None, Some, refl, ap}
use Rattle.base_core.specs.Files.{put_name, drop_name}
use Rattle.base_core.proofs.AtName.{other_name, same_name}

by_test : (b : Bool) (P : Type 0) → (b ≡ true → P) × (P → b ≡ true) → P ⊎ (b ≡ false)
by_test true P d = inl (d.0 refl)
by_test false P d = inr refl

off_by_test : (b : Bool) (P : Type 0) → (b ≡ true → P) → (P → ⊥) → b ≡ false
off_by_test true P d = λ no. absurd (no (d refl))
off_by_test false P d = λ no. refl

pub put_name-at : {A : Type 0} (m : List ℕ → Option A) (name : List ℕ) (x : A) (q : List ℕ) → q ≡ name → put_name m name x q ≡ Some x
put_name-at m name x q is = ap (λ b. cond b (Some x) (m q)) (same_name q name is)

pub put_name-off : {A : Type 0} (m : List ℕ → Option A) (name : List ℕ) (x : A) (q : List ℕ) → q ≢ name → put_name m name x q ≡ m q
put_name-off m name x q ne = ap (λ b. cond b (Some x) (m q)) (other_name q name ne)

pub drop_name-at : {A : Type 0} (m : List ℕ → Option A) (name q : List ℕ) → q ≡ name → drop_name m name q ≡ None
drop_name-at m name q is = ap (λ b. cond b None (m q)) (same_name q name is)

pub drop_name-off : {A : Type 0} (m : List ℕ → Option A) (name q : List ℕ) → q ≢ name → drop_name m name q ≡ m q
drop_name-off m name q ne = ap (λ b. cond b None (m q)) (other_name q name ne)
