-- What a map has at one name, and at the others.
use Rattle.std.proofs.Common.{◌≡◌, ◌⊎◌, ◌≢◌, inl, inr, ⊎_elim, ℕ, Bool, true, false, cond, List, Option, Some, None, IsSome, refl, sym, ap, subst}
use Rattle.std.specs.Str.{bytes_eq}
use Rattle.std.proofs.lemmas.Slice.Eq.{bytes_eq-Decides}
use Rattle.base_core.specs.Files.{put_name, drop_name}
use Rattle.base_core.proofs.AtName.{other_name, same_name, name_cases, off_name}

by_test : (b : Bool) (P : Type 0) → (b ≡ true → P) × (P → b ≡ true) → P ⊎ (b ≡ false)
by_test true P d = inl (d.0 refl)
by_test false P d = inr refl

pub is_name : (q name : List ℕ) → bytes_eq q name ≡ true → q ≡ name
is_name q name = (bytes_eq-Decides q name).0

off_by_test : (b : Bool) (P : Type 0) → (b ≡ true → P) → (P → ⊥) → b ≡ false
off_by_test true P d = λ off. absurd (off (d refl))
off_by_test false P d = λ off. refl

pub put-at : {X : Type 0} (map : List ℕ → Option X) (name : List ℕ) (x : X) (q : List ℕ) → q ≡ name → put_name map name x q ≡ Some x
put-at map name x q is = ap (λ b. cond b (Some x) (map q)) (same_name q name is)

pub put-off : {X : Type 0} (map : List ℕ → Option X) (name : List ℕ) (x : X) (q : List ℕ) → q ≢ name → put_name map name x q ≡ map q
put-off map name x q ne = ap (λ b. cond b (Some x) (map q)) (other_name q name ne)

pub drop_name-at : {X : Type 0} (map : List ℕ → Option X) (name q : List ℕ) → q ≡ name → drop_name map name q ≡ None
drop_name-at map name q is = ap (λ b. cond b None (map q)) (same_name q name is)

pub drop_name-off : {X : Type 0} (map : List ℕ → Option X) (name q : List ℕ) → q ≢ name → drop_name map name q ≡ map q
drop_name-off map name q ne = ap (λ b. cond b None (map q)) (other_name q name ne)

-- what was present is so with one name more
pub some_put : {X : Type 0} (map : List ℕ → Option X) (name : List ℕ) (x : X) (q : List ℕ) → IsSome (map q) → IsSome (put_name map name x q)
some_put map name x q some =
    ⊎_elim (λ is. subst IsSome (sym (put-at map name x q is)) refl) (λ off. subst IsSome (sym (put-off map name x q (off_name q name off))) some) (name_cases q name)
