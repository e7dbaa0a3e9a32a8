-- What a writer keeps while it grows.
use Rattle.std.proofs.Common.{◌≡◌, ℕ, ◌+◌, ◌-◌, ◌≤◌, List, ◌++◌, length, take, drop, replicate, refl, sym, ap, ◌∙◌, append_assoc, arith, inl, inr}
use Rattle.std.proofs.lemmas.List.{length-append, length-replicate, length-take, length-drop, replicate-append-replicate, take-append-le, drop-append-le, take_at, drop_at}
use Rattle.adb_write.specs.WriterState.{IsEmptyOrHasHead}

-- eight bytes are in front
long : (payload : List ℕ) → take 8 payload ≡ replicate {A = ℕ} 8 0 → 8 ≤ length payload
long payload h = let l : length (take 8 payload) ≡ 8 = ap length h in omega (arith, length-take 8 payload)

pub record Grown (payload new : List ℕ) (g : ℕ) (x : List ℕ) : Type 0 where
  pub head : IsEmptyOrHasHead new
  pub body : drop 8 new ≡ drop 8 payload ++ (replicate g 0 ++ x)

-- the first zeros are the head
first : (g : ℕ) (x : List ℕ) → replicate {A = ℕ} (8 + g) 0 ++ x ≡ replicate {A = ℕ} 8 0 ++ (replicate {A = ℕ} g 0 ++ x)
first g x = ap (λ (y : List ℕ). y ++ x) (sym (replicate-append-replicate {A = ℕ} 8 g 0)) ∙ append_assoc (replicate {A = ℕ} 8 0) (replicate {A = ℕ} g 0) x

-- zeros up to an offset, and something there
pub grown : (payload : List ℕ) (bytes g : ℕ) (x : List ℕ) → IsEmptyOrHasHead payload → bytes ≡ 8 + length (drop 8 payload) → Grown payload (payload ++ (replicate (bytes + g - length payload) 0 ++ x)) g x
grown payload bytes g x h e = go h
  where
    go : IsEmptyOrHasHead payload → Grown payload (payload ++ (replicate (bytes + g - length payload) 0 ++ x)) g x
    go (inl none) =
        let nothing : length payload ≡ 0 = ap length none in
        let dropped : length (drop 8 payload) ≡ 0 = ap (λ (p : List ℕ). length (drop 8 p)) none in
        let zeros : bytes + g - length payload ≡ 8 + g = omega arith in
        let is : payload ++ (replicate {A = ℕ} (bytes + g - length payload) 0 ++ x) ≡ replicate {A = ℕ} 8 0 ++ (replicate {A = ℕ} g 0 ++ x) =
        ap (λ (p : List ℕ). p ++ (replicate {A = ℕ} (bytes + g - length payload) 0 ++ x)) none ∙ ap (λ (k : ℕ). replicate {A = ℕ} k 0 ++ x) zeros ∙ first g x in
        record {
          head = inr (ap (take 8) is ∙ take_at (replicate {A = ℕ} 8 0) (replicate {A = ℕ} g 0 ++ x) 8 refl);
          body = ap (drop 8) is ∙ drop_at (replicate {A = ℕ} 8 0) (replicate {A = ℕ} g 0 ++ x) 8 refl ∙ ap (λ (p : List ℕ). drop 8 p ++ (replicate {A = ℕ} g 0 ++ x)) (sym none);
        }
    go (inr some) =
        let far = long payload some in
        let zeros : bytes + g - length payload ≡ g = omega (arith, length-drop 8 payload) in
        record {
          head = inr (take-append-le 8 payload (replicate (bytes + g - length payload) 0 ++ x) far ∙ some);
          body = drop-append-le 8 payload (replicate (bytes + g - length payload) 0 ++ x) far ∙ ap (λ (k : ℕ). drop 8 payload ++ (replicate k 0 ++ x)) zeros;
        }

pub grown_len : (payload new : List ℕ) (g : ℕ) (x : List ℕ) (bytes len : ℕ) → Grown payload new g x → bytes ≡ 8 + length (drop 8 payload) → len ≡ length x → bytes + g + len ≡ 8 + length (drop 8 new)
grown_len payload new g x bytes len h e l =
    omega (arith, ap length h.body, length-append (drop 8 payload) (replicate {A = ℕ} g 0 ++ x), length-append (replicate {A = ℕ} g 0) x, length-replicate {A = ℕ} g 0)
