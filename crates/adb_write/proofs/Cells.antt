-- The items that the code makes are those of the layout.
use Rattle.std.proofs.Common.{◌≡◌, ◌≢◌, ℕ, suc, ◌+◌, ◌-◌, ◌^◌, ◌<◌, ◌≤◌, Bool, true, false, cond, eqb, ltb, List, [], ◌∷◌, ◌++◌, length, take, get_or, refl, sym, ap, ◌∙◌, arith}
use Rattle.std.specs.List.{flat_map}
use Rattle.std.specs.Int.{w8, w16, w32, w64, to_le_bytes}
use Rattle.std.proofs.lemmas.Bool.{le-ltb, ne_eqb}
use Rattle.std.proofs.lemmas.List.{take_more}
use Rattle.adb_write.specs.Canonical.{Item, apart, int_item, int_cell, blob_item, blob_cell, array_or_object_item, run_bytes_with_leading_count, array_or_object_cell, prepend_unless_last_null, words_without_last_nulls}

-- ---- the number in an item's front, and what follows it

pub int_is : (n : ℕ) → 2 ^ 28 ≤ n → apart (int_item n) ≡ int_cell n
int_is n a = let t : ltb n (2 ^ 28) ≡ false = le-ltb _ _ a in rw t refl

pub blob_is : (b : List ℕ) → 0 < length b → apart (blob_item b) ≡ blob_cell b
blob_is [] some = absurd (omega arith)
blob_is (x ∷ xs) some = refl

pub blob_filled : (b : List ℕ) → eqb (length b) 0 ≡ false → apart (blob_item b) ≡ blob_cell b
blob_filled [] some = absurd cc
blob_filled (x ∷ xs) some = refl

pub run_is : (kind : ℕ) (ws : List ℕ) → 0 < length ws → apart (array_or_object_item kind ws) ≡ array_or_object_cell kind ws
run_is kind [] some = absurd (omega arith)
run_is kind (w ∷ ws) some = refl

-- the items, by the tests of their sizes
abbrev int_by : Bool → ℕ → Item
int_by a n = cond a (record { kind = 2; align = 4; bytes = to_le_bytes w32 n; entries = 0 }) (record { kind = 3; align = 8; bytes = to_le_bytes w64 n; entries = 0 })

abbrev blob_by : Bool → Bool → List ℕ → Item
blob_by a c b = cond a (record { kind = 8; align = 1; bytes = to_le_bytes w8 (length b) ++ b; entries = 0 }) (cond c (record { kind = 9; align = 2; bytes = to_le_bytes w16 (length b) ++ b; entries = 0 }) (record { kind = 10; align = 4; bytes = to_le_bytes w32 (length b) ++ b; entries = 0 }))

pub int_bytes : (n : ℕ) → (int_item n).bytes ≡ take (int_item n).align (to_le_bytes w64 n) ++ []
int_bytes n = go (ltb n (2 ^ 32))
  where
    go : (a : Bool) → (int_by a n).bytes ≡ take (int_by a n).align (to_le_bytes w64 n) ++ []
    go true = refl
    go false = refl

pub blob_bytes : (b : List ℕ) → (blob_item b).bytes ≡ take (blob_item b).align (to_le_bytes w64 (length b)) ++ b
blob_bytes b = go (ltb (length b) (2 ^ 8)) (ltb (length b) (2 ^ 16))
  where
    go : (a c : Bool) → (blob_by a c b).bytes ≡ take (blob_by a c b).align (to_le_bytes w64 (length b)) ++ b
    go true c = refl
    go false true = refl
    go false false = refl

pub run_bytes_are : (ws : List ℕ) (n : ℕ) → n ≡ length ws + 1 → run_bytes_with_leading_count ws ≡ take 4 (to_le_bytes w64 n) ++ flat_map (to_le_bytes w32) ws
run_bytes_are ws n e = let is : n ≡ suc (length ws) = omega arith in rw is refl

-- ---- an object's words without the NULLs that are last

keep_last : (w v : ℕ) (ws : List ℕ) → prepend_unless_last_null w (ws ++ v ∷ []) ≡ w ∷ ws ++ v ∷ []
keep_last w v [] = refl
keep_last w v (x ∷ xs) = refl

pub trimmed_null : (ws : List ℕ) → words_without_last_nulls (ws ++ 0 ∷ []) ≡ words_without_last_nulls ws
trimmed_null [] = refl
trimmed_null (w ∷ ws) = ap (prepend_unless_last_null w) (trimmed_null ws)

pub trimmed_some : (w : ℕ) (ws : List ℕ) → w ≢ 0 → words_without_last_nulls (ws ++ w ∷ []) ≡ ws ++ w ∷ []
trimmed_some w [] ne = let t : eqb w 0 ≡ false = ne_eqb w 0 ne in rw t refl
trimmed_some w (x ∷ xs) ne = ap (prepend_unless_last_null x) (trimmed_some w xs ne) ∙ keep_last x w xs

-- the first n words are one fewer and the last of them
one_more : (ws : List ℕ) (n x : ℕ) → 0 < n → n ≤ length ws → x ≡ get_or ws (n - 1) x → take n ws ≡ take (n - 1) ws ++ x ∷ []
one_more ws n x some within is =
    let m : n - 1 + 1 ≡ n = omega arith in
    ap (λ (k : ℕ). take k ws) (sym m) ∙ take_more ws (n - 1) x (omega arith) ∙ ap (λ (y : ℕ). take (n - 1) ws ++ y ∷ []) (sym is)

pub cut_null : (ws : List ℕ) (n x : ℕ) → 0 < n → n ≤ length ws → x ≡ get_or ws (n - 1) x → x ≡ 0 → words_without_last_nulls (take (n - 1) ws) ≡ words_without_last_nulls (take n ws)
cut_null ws n x some within is null =
    let last : take n ws ≡ take (n - 1) ws ++ 0 ∷ [] = one_more ws n x some within is ∙ ap (λ (y : ℕ). take (n - 1) ws ++ y ∷ []) null in
    sym (ap words_without_last_nulls last ∙ trimmed_null (take (n - 1) ws))

pub cut_some : (ws : List ℕ) (n x : ℕ) → 0 < n → n ≤ length ws → x ≡ get_or ws (n - 1) x → x ≢ 0 → words_without_last_nulls (take n ws) ≡ take n ws
cut_some ws n x some within is ne =
    let last = one_more ws n x some within is in
    rw last (trimmed_some x (take (n - 1) ws) ne)
