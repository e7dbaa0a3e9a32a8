-- What is found among the written items is in the payload.
use Rattle.std.proofs.Common.{◌≡◌, ℕ, ◌+◌, ◌<◌, ◌≤◌, Bool, true, false, cond, eqb, List, [], ◌∷◌, ◌++◌, length, take, drop, Some, None, refl, sym, ap, ◌∙◌, arith, ◌⊎◌, take-append-drop}
use Rattle.std.specs.Prelude.{find}
use Rattle.std.specs.List.{AllByRecursion}
use Rattle.std.specs.Int.{w32, to_le_bytes}
use Rattle.std.proofs.lemmas.Bool.{eqb-true, and_parts}
use Rattle.std.proofs.lemmas.List.{length-take, length-drop, drop-drop, drop_at}
use Rattle.std.proofs.lemmas.Slice.Eq.{bytes_eq-Decides}
use Rattle.adb_write.specs.Canonical.{Item, WrittenItem, Layout, is_equal_item, payload_with_root_word_in_head}
use Rattle.adb_write.proofs.Placed.{Stands}

-- what is found passes the test
pub find-passes : {A : Type 0} (test : A → Bool) (xs : List A) (y : A) → find test xs ≡ Some y → test y ≡ true
find-passes test [] y e = absurd cc
find-passes test (x ∷ xs) y e = go (test x) refl (λ f. find-passes test xs y f) e
  where
    go : (b : Bool) → test x ≡ b → (find test xs ≡ Some y → test y ≡ true) → cond b (Some x) (find test xs) ≡ Some y → test y ≡ true
    go true i h f = let same : x ≡ y = cc in ap test (sym same) ∙ i
    go false i h f = h f

-- if no element passes, none is found
pub find-none : {A : Type 0} (test : A → Bool) (xs : List A) → AllByRecursion (λ x. test x ≡ false) xs → find test xs ≡ None
find-none test [] h = refl
find-none test (x ∷ xs) h = ap (λ b. cond b (Some x) (find test xs)) h.0 ∙ find-none test xs h.1

-- y is one of them
abbrev pub Has : {A : Type 0} → A → List A → Type 0
Has y [] = ⊥
Has y (x ∷ xs) = (x ≡ y) ⊎ Has y xs

pub equal_kind : (body : List ℕ) (i : Item) (there : WrittenItem) → is_equal_item body i there ≡ true → there.kind ≡ i.kind
equal_kind body i there e = eqb-true _ _ (and_parts (eqb there.kind i.kind) _ e).0

pub equal_bytes : (body : List ℕ) (i : Item) (there : WrittenItem) → is_equal_item body i there ≡ true → take (length i.bytes) (drop there.offset body) ≡ i.bytes
equal_bytes body i there e = (bytes_eq-Decides (take (length i.bytes) (drop there.offset body)) i.bytes).0 (and_parts (eqb there.kind i.kind) _ e).1

-- where an item's bytes stand, it ends within the body
pub equal_within : (body : List ℕ) (at : ℕ) (bytes : List ℕ) → 0 < length bytes → take (length bytes) (drop at body) ≡ bytes → at + length bytes ≤ length body
equal_within body at bytes some e = omega (arith, ap length e, length-take (length bytes) (drop at body), length-drop at body)

pub equal_stands : (out : Layout) (i : Item) (there : WrittenItem) (root : ℕ) → 0 < length i.bytes → is_equal_item out.body i there ≡ true
    → Stands (payload_with_root_word_in_head root out) (8 + there.offset) (i.bytes ++ drop (length i.bytes) (drop there.offset out.body))
equal_stands out i there root some e =
    let bytes = equal_bytes out.body i there e in
    let within = equal_within out.body there.offset i.bytes some bytes in
    record {
      inside = omega arith;
      is = sym (drop-drop there.offset 8 (payload_with_root_word_in_head root out)) ∙ ap (drop there.offset) (drop_at (0 ∷ 0 ∷ 0 ∷ 0 ∷ to_le_bytes w32 root) out.body 8 refl) ∙ sym (take-append-drop (length i.bytes) (drop there.offset out.body)) ∙ ap (λ (x : List ℕ). x ++ drop (length i.bytes) (drop there.offset out.body)) bytes;
    }
