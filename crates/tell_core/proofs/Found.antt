-- The element at the place at which one is found.
use Rattle.std.proofs.Common.{◌≡◌, ◌+◌, Bool, true, false, cond, List, [], ◌∷◌, ◌++◌, length, Option, Some, refl, sym, ◌∙◌, ap, append_assoc}
use Rattle.std.specs.Prelude.{slice_get}
use Rattle.std.specs.List.{find, position_from}
use Rattle.std.specs.Option.{option_and_then}
use Rattle.std.proofs.lemmas.List.{length-append}

behind : {X : Type 0} (front xs : List X) (x : X) → slice_get (front ++ x ∷ xs) (length front) ≡ Some x
behind [] xs x = refl
behind (y ∷ front) xs x = behind front xs x

one_further : {X : Type 0} (p : X → Bool) (front xs : List X) (x : X) (found : Option X)
    → option_and_then (slice_get ((front ++ x ∷ []) ++ xs)) (position_from p (length (front ++ x ∷ [])) xs) ≡ found
    → option_and_then (slice_get (front ++ x ∷ xs)) (position_from p (length front + 1) xs) ≡ found
one_further p front xs x found e =
    ap (λ z. option_and_then (slice_get z) (position_from p (length front + 1) xs)) (sym (append_assoc front (x ∷ []) xs))
    ∙ (ap (λ n. option_and_then (slice_get ((front ++ x ∷ []) ++ xs)) (position_from p n xs)) (sym (length-append front (x ∷ []))) ∙ e)

by_test : {X : Type 0} (p : X → Bool) (front xs : List X) (x : X) (t : Bool) (found : Option X)
    → option_and_then (slice_get (front ++ x ∷ xs)) (position_from p (length front + 1) xs) ≡ found
    → option_and_then (slice_get (front ++ x ∷ xs)) (cond t (Some (length front)) (position_from p (length front + 1) xs)) ≡ cond t (Some x) found
by_test p front xs x true found e = behind front xs x
by_test p front xs x false found e = e

-- behind others
found_after : {X : Type 0} (p : X → Bool) (xs front : List X) → option_and_then (slice_get (front ++ xs)) (position_from p (length front) xs) ≡ find p xs
found_after p [] front = refl
found_after p (x ∷ xs) front =
    by_test p front xs x (p x) (find p xs) (one_further p front xs x (find p xs) (found_after p xs (front ++ x ∷ [])))

pub found_at : {X : Type 0} (p : X → Bool) (xs : List X) → option_and_then (slice_get xs) (position_from p 0 xs) ≡ find p xs
found_at p xs = found_after p xs []
